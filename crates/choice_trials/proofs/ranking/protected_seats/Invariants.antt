use Rattle.std.proofs.Common.{◌≡◌, ◌≤◌, ◌*◌, sum, take}
use Rattle.choice_trials.proofs.ranking.protected_seats.Given as goal

abbrev pub invariant-loop-count : goal.invariant-loop-count
invariant-loop-count l = record {
  seats : l.seats ≡ sum (take l.count-index l.count-items);
  within : l.seats ≤ 65535 * l.count-index;
}
