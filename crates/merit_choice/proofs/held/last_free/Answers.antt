use Rattle.std.proofs.Common.{◌-◌, ◌∙◌, true, false, arith}
use Rattle.std.proofs.lemmas.List.{get_or_default}
use Rattle.merit_choice.proofs.held.last_free.Goals as goal

pub bounds-marks-at : goal.bounds-marks-at
bounds-marks-at c = let more = c.loop-at-test.true in let within = c.loop-at.invariant.0 in omega arith

pub returns-then-not-marks-at : goal.returns-then-not-marks-at
returns-then-not-marks-at c =
    let at = c.loop-at.at in
    let marks = c.args.marks.now in
    let more = c.loop-at-test.true in
    let within = c.loop-at.invariant.0 in
    record {
      free = get_or_default marks (at - 1) true false (omega arith) ∙ c.if-not-marks-at.true;
      later = λ k past. c.loop-at.invariant.1 k (omega arith);
    }
