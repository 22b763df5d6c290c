use Rattle.std.proofs.Common.{◌≡◌, ◌≤◌, ◌+◌, drop}
use Rattle.office_base.specs.Placement.{placed_on}
use Rattle.special_round.proofs.left.count_on.Given as goal

abbrev pub invariant-loop-pair : goal.invariant-loop-pair
invariant-loop-pair l = record {
  whole : l.count + placed_on l.t (drop l.pair-index l.pairs) ≡ placed_on l.t l.pairs;
  few : l.count ≤ l.pair-index;
}
