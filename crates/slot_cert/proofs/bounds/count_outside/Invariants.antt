use Rattle.std.proofs.Common.{◌≡◌, ◌≤◌, ◌+◌, drop}
use Rattle.placements.specs.Demand.{asking_outside}
use Rattle.slot_cert.proofs.bounds.count_outside.Given as goal

abbrev pub invariant-loop-person : goal.invariant-loop-person
invariant-loop-person l =
    (l.count + asking_outside l.set (drop l.person-index l.people) ≡ asking_outside l.set l.people) × (l.count ≤ l.person-index)
