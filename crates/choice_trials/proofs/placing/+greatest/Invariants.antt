use Rattle.std.proofs.Common.{length, ◌≤◌, suc}
use Rattle.placements.specs.Greatest.{IsGreatestBelow}
use Rattle.choice_trials.proofs.placing.+greatest.Given as goal

abbrev pub decreases-greatest : goal.decreases-greatest
decreases-greatest l = length l.people.now

abbrev pub invariant-loop-t : goal.invariant-loop-t
invariant-loop-t l = record {
  below : IsGreatestBelow l.t l.left l.person l.others l.number;
  within : l.number ≤ suc (length l.others);
}
