use Rattle.std.proofs.Common.{◌≡◌, drop}
use Rattle.publish.specs.Rows.{people_after}
use Rattle.publish.proofs.parts.people_after.Given as goal

abbrev pub invariant-loop-at : goal.invariant-loop-at
invariant-loop-at l = people_after l.id (drop l.at l.people) ≡ people_after l.id l.people
