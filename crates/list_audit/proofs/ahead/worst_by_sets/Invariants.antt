use Rattle.std.proofs.Common.{◌≡◌, ◌<◌, ℕ, None, length}
use Rattle.std.specs.Prelude.{slice_index_or}
use Rattle.list_audit.specs.Reckoning.{IsWorstWithin}
use Rattle.list_audit.proofs.ahead.worst_by_sets.Given as goal

abbrev pub invariant-loop-set : goal.invariant-loop-set
invariant-loop-set l = (length l.worst ≡ 64) × ((n : ℕ) → n < l.set → IsWorstWithin l.list (record { 0 = n }) l.members (slice_index_or l.worst n None))
