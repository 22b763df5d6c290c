use Rattle.special_round.proofs.Setting.{AreLeftUpto}
use Rattle.special_round.proofs.matrix.set_from.Given as goal

abbrev pub invariant-loop-step : goal.invariant-loop-step
invariant-loop-step l = AreLeftUpto l.register.people l.rows l.table l.prog.0 l.step-index l.fn.left l.left
