use Rattle.std.proofs.Common.{◌≡◌, ◌<◌, ℕ, length}
use Rattle.std.specs.Prelude.{slice_index}
use Rattle.placements.specs.Demand.{positions}
use Rattle.slot_matching.proofs.spare.all_spare.Given as goal

abbrev pub invariant-loop-set : goal.invariant-loop-set
invariant-loop-set l = record {
  sets : length l.spare ≡ 64;
  left : (m : ℕ) → m < l.set → slice_index l.spare m ≡ positions l.protections (record { 0 = m });
}
