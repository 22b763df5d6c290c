use Rattle.std.proofs.Common.{All}
use Rattle.office_base.specs.StepChoice.{IsStepChoice}
use Rattle.choice_trials.proofs.choosing.choice.Given as goal

abbrev pub invariant-loop-set : goal.invariant-loop-set
invariant-loop-set l = All (λ set. ¬ IsStepChoice l.step set) l.yielded
