use Rattle.std.proofs.Common.{◌≡◌, ◌++◌, drop, length, take}
use Rattle.special_round.specs.Remaining.{protections_left}
use Rattle.special_round.proofs.left.what_is_left.Given as goal

abbrev pub invariant-loop-t : goal.invariant-loop-t
invariant-loop-t l = record {
  size : length l.counts ≡ 6;
  whole : take l.t l.counts ++ protections_left l.t (drop l.t l.old.counts) l.pairs l.room ≡ protections_left 0 l.old.counts l.pairs l.seats;
}
