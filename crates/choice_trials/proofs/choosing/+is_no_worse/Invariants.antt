use Rattle.std.proofs.Common.{length}
use Rattle.choice_trials.proofs.choosing.+is_no_worse.Given as goal

abbrev pub decreases-is_no_worse : goal.decreases-is_no_worse
decreases-is_no_worse l = length l.others.now
