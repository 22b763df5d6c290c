use Rattle.std.proofs.Common.{◌≡◌}
use Rattle.special_round.proofs.Setting.{DoneUpto}
use Rattle.special_round.proofs.matrix.remaining_matrix.Given as goal

abbrev pub invariant-loop-number : goal.invariant-loop-number
invariant-loop-number l = (l.left.programmes ≡ l.table.programmes) × DoneUpto l.register.people l.finals l.table l.left l.number
