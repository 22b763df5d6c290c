use Rattle.std.proofs.Common.{◌∷◌}
use Rattle.choice_trials.specs.First.{StandsOnNoneBelow}
use Rattle.choice_trials.proofs.certifying.first_stand.Given as goal

abbrev pub invariant-loop-t : goal.invariant-loop-t
invariant-loop-t l = StandsOnNoneBelow l.t l.left (l.person ∷ l.others) l.number
