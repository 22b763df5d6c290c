use Rattle.std.proofs.Common.{length}
use Rattle.choice_trials.proofs.ranking.+is_ahead_of_all.Given as goal

abbrev pub decreases-is_ahead_of_all : goal.decreases-is_ahead_of_all
decreases-is_ahead_of_all l = length l.others.now
