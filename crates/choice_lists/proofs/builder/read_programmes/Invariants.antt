use Rattle.std.proofs.Common.{◌≡◌, ◌-◌, [], ℕ, false, length}
use Rattle.std.specs.Prelude.{◌==◌, drop, slice_index_or}
use Rattle.choice_lists.specs.Choices.{choices, is_chosen}
use Rattle.choice_lists.proofs.builder.read_programmes.Given as goal

abbrev pub invariant-fields : goal.invariant-fields
invariant-fields l = (choices l.matrix l.person [] (drop 1 l.row.row) ≡ choices l.matrix l.person l.chosen.items (drop l.at l.row.row))
    × ((n : ℕ) → (slice_index_or l.named_last n 0 == l.person.id.0) ≡ is_chosen n l.chosen.items)
    × ((n q : ℕ) → (l.person.id.0 == q) ≡ false → (slice_index_or l.fn.named_last n 0 == q) ≡ false → (slice_index_or l.named_last n 0 == q) ≡ false)

abbrev pub decreases-fields : goal.decreases-fields
decreases-fields l = length l.row.row - l.at
