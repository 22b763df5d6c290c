use Rattle.std.proofs.Common.{take}
use Rattle.seat_matrix.specs.Builder.{AreNumbers}
use Rattle.seat_matrix.proofs.builder.number.Given as goal

abbrev pub invariant-loop-i : goal.invariant-loop-i
invariant-loop-i l = AreNumbers (take l.i l.programmes) l.numbers
