use Rattle.std.proofs.Common.{◌≡◌, ◌++◌, take, drop}
use Rattle.placements.specs.Ranks.{without}
use Rattle.slot_matching.proofs.members.place_of.Given as goal

abbrev pub invariant-loop-at : goal.invariant-loop-at
invariant-loop-at l = without l.cand l.members ≡ take l.at l.members ++ without l.cand (drop l.at l.members)
