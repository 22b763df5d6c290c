use Rattle.std.proofs.Common.{length}
use Rattle.choice_trials.proofs.ranking.+are_ranked.Given as goal

abbrev pub decreases-are_ranked : goal.decreases-are_ranked
decreases-are_ranked l = length l.people.now
