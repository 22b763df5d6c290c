use Rattle.std.proofs.Common.{length}
use Rattle.choice_trials.proofs.sublists.+is_sublist.Given as goal

abbrev pub decreases-is_sublist : goal.decreases-is_sublist
decreases-is_sublist l = length l.people.now
