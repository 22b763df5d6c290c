use Rattle.std.proofs.Common.{◌<◌, ℕ}
use Rattle.publish.specs.Pieces.{BeginsCode}
use Rattle.publish.proofs.pieces.begins_seat.Given as goal

abbrev pub invariant-loop-prog : goal.invariant-loop-prog
invariant-loop-prog l = (k : ℕ) → k < l.prog → BeginsCode l.matrix k l.piece → ⊥
