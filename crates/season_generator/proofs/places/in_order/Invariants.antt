use Rattle.std.proofs.Common.{◌≡◌, length}
use Rattle.std.specs.List.{range_with_len}
use Rattle.season_generator.proofs.places.in_order.Given as goal

abbrev pub invariant-loop-before : goal.invariant-loop-before
invariant-loop-before l = record {
  items : l.held.items ≡ range_with_len 1 l.before;
  len : length l.held.items ≡ l.before;
}
