use Rattle.std.proofs.Common.{◌≤◌, length, drop}
use Rattle.std.specs.List.{AllByRecursion}
use Rattle.office_base.specs.Lists.{AnyByRecursion}
use Rattle.office_base.specs.Placement.{Fills}
use Rattle.slot_cert.proofs.cert.are_held.Given as goal

abbrev pub invariant-loop-pair : goal.invariant-loop-pair
invariant-loop-pair l = record {
  within : l.next ≤ length l.people;
  held : AllByRecursion (λ pair. AnyByRecursion (Fills pair) l.people) (drop l.pair-index l.pairs) → AllByRecursion (λ pair. AnyByRecursion (Fills pair) l.people) l.pairs;
}
