use Rattle.std.proofs.Common.{All, take}
use Rattle.choice_trials.specs.StepChoice.{StandsAgainst}
use Rattle.choice_trials.proofs.choosing.stands_against_all.Given as goal

abbrev pub invariant-loop-other : goal.invariant-loop-other
invariant-loop-other l = All (StandsAgainst l.step l.set) (take l.other-index l.others)
