use Rattle.std.proofs.Common.{length}
use Rattle.choice_trials.proofs.candidates.+is_apart.Given as goal

abbrev pub decreases-is_apart : goal.decreases-is_apart
decreases-is_apart l = length l.people.now
