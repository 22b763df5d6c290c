use Rattle.std.proofs.Common.{Some, ap, ◌∙◌}
use Rattle.proceedings.proofs.OwnRows.{turn_pushed, turn_taken, turns_all}
use Rattle.proceedings.proofs.looks.push_turns.Goals.{in-Some+in_ok-push, in_default}
use Rattle.proceedings.proofs.looks.push_turns.Goals as goal

pub loop-before-preserved : goal.loop-before-preserved
loop-before-preserved c choices there = elim c.match-choice.branch [
  | in-Some+in_ok-push w ↦ turn_pushed c.args.window c.args.cand c.args.table.now c.args.at c.loop-before.before w.in-Some.choice c.args.rows.now c.loop-before.rows c.match-choice.rows choices there
      (c.choice.ensures ∙ ap Some w.in-Some.is) (c.loop-before.invariant choices there) (w.rows-is ∙ w.in_ok-push.ensures.ok)
  | in_default w ↦ absurd (turn_taken c.args.table.now c.args.at c.loop-before.before c.taken-before-end.result choices there c.taken-before-end.ensures c.loop-before-test.true
      (c.choice.ensures ∙ ap Some w.in_default.is))
]

pub returns : goal.returns
returns c choices there =
    turns_all c.args.window c.args.cand c.args.table.now c.args.at c.loop-before.before c.taken-before-end.result c.args.rows.now c.loop-before.rows choices there c.taken-before-end.ensures
    c.loop-before-test.false (c.loop-before.invariant choices there)
