use Rattle.std.proofs.Common.{length}
use Rattle.choice_trials.proofs.step_states.+answer_as_told.Given as goal

abbrev pub decreases-answer_as_told : goal.decreases-answer_as_told
decreases-answer_as_told l = length l.people.now
