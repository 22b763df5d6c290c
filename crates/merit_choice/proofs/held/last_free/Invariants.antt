use Rattle.std.proofs.Common.{◌≡◌, ◌≤◌, ℕ, true, length, slice_index_or}
use Rattle.merit_choice.proofs.held.last_free.Given as goal

abbrev pub invariant-loop-at : goal.invariant-loop-at
invariant-loop-at l = (l.at ≤ length l.marks) × ((k : ℕ) → l.at ≤ k → slice_index_or l.marks k true ≡ true)

abbrev pub decreases-loop-at : goal.decreases-loop-at
decreases-loop-at l = l.at
