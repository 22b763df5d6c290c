use Rattle.std.proofs.Common.{◌≡◌, ◌++◌, drop}
use Rattle.merit_choice.specs.Marks.{kept, filled_up}
use Rattle.merit_choice.proofs.choice.fill_up.Given as goal

abbrev pub invariant-loop-at : goal.invariant-loop-at
invariant-loop-at l = l.admitted ++ kept (drop l.at l.people) (filled_up (drop l.at l.marks) l.left) ≡ kept l.people (filled_up l.marks l.free)
