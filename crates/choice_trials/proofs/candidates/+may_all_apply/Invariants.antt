use Rattle.std.proofs.Common.{length}
use Rattle.choice_trials.proofs.candidates.+may_all_apply.Given as goal

abbrev pub decreases-may_all_apply : goal.decreases-may_all_apply
decreases-may_all_apply l = length l.people.now
