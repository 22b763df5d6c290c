use Rattle.std.proofs.Common.{◌+◌, ◌-◌, ◌<◌, ◌∙◌, length, drop, arith}
use Rattle.merit_choice.specs.Marks.{kept, filled_up}
use Rattle.merit_choice.proofs.Filling.{needed_at, free_at, full_at, renamed}
use Rattle.merit_choice.proofs.choice.fill_up.Goals as goal
use Rattle.merit_choice.proofs.choice.fill_up.Goals.{then-marks-at+in_ok-push, else-marks-at+then-left-gt0+in_ok-push-2, else-marks-at+else-left-gt0}

pub loop-at-preserved : goal.loop-at-preserved
loop-at-preserved c =
    let people = c.args.people.now in
    let marks = c.args.marks.now in
    let at = c.loop-at.at in
    let left = c.loop-at.left in
    let admitted = c.loop-at.admitted in
    let whole = kept people (filled_up marks c.args.free) in
    let inside = c.loop-at-test.true in
    let same = c.requires in
    let within : at < length marks = omega arith in
    let so_far = c.loop-at.invariant in
    elim c.if-marks-at.branch [
      | then-marks-at+in_ok-push w ↦
          renamed (drop (at + 1) people) (drop (at + 1) marks) left c.if-marks-at.left _ c.if-marks-at.admitted whole (w.admitted-is ∙ w.in_ok-push.ensures.ok) w.left-is
          (needed_at people marks at left _ admitted whole inside within w.if-marks-at.true so_far)
      | else-marks-at+then-left-gt0+in_ok-push-2 w ↦
          renamed (drop (at + 1) people) (drop (at + 1) marks) (left - 1) c.if-marks-at.left _ c.if-marks-at.admitted whole (w.admitted-is ∙ w.in_ok-push-2.ensures.ok) w.left-is
          (free_at people marks at left (left - 1) _ admitted whole inside within w.if-marks-at.false (let more = w.if-left-gt0.true in omega arith) so_far)
      | else-marks-at+else-left-gt0 w ↦
          renamed (drop (at + 1) people) (drop (at + 1) marks) left c.if-marks-at.left admitted c.if-marks-at.admitted whole w.admitted-is w.left-is
          (full_at people marks at left admitted whole inside within w.if-marks-at.false (let none = w.if-left-gt0.false in omega arith) so_far)
    ]
