use Rattle.std.proofs.Common.{drop}
use Rattle.office_base.specs.Lists.{AnyByRecursion}
use Rattle.office_base.specs.Placement.{Fills}
use Rattle.slot_cert.proofs.cert.first_filled.Given as goal

abbrev pub invariant-loop-at : goal.invariant-loop-at
invariant-loop-at l = AnyByRecursion (Fills l.pair) l.people → AnyByRecursion (Fills l.pair) (drop l.at l.people)
