use Rattle.std.proofs.Common.{◌≡◌, ◌<◌, ◌≤◌, ◌+◌, ℕ}
use Rattle.std.specs.Prelude.{slice_index, if◌then◌else◌}
use Rattle.placements.specs.Demand.{is_within}
use Rattle.slot_matching.proofs.spare.give_spare.Given as goal

abbrev pub invariant-loop-set : goal.invariant-loop-set
invariant-loop-set l = record {
  given : (m : ℕ) → m < l.set → slice_index l.spare m ≡ slice_index l.initial.spare m + (if is_within l.traits (record { 0 = m }) then 1 else 0);
  rest : (m : ℕ) → l.set ≤ m → m < 64 → slice_index l.spare m ≡ slice_index l.initial.spare m;
}
