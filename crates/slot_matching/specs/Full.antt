-- The least set of traits that has nothing to spare and holds the traits of a person: whom the person can replace holds no other trait.
use Rattle.std.specs.Prelude.{◌≡◌, ◌<◌, ℕ, List, Option, Some, None, slice_index, bit_and, IsTrue}
use Rattle.office_base.specs.declared.person.TraitSet.{TraitSet}
use Rattle.placements.specs.Demand.{is_within}

-- what two sets with nothing to spare have in common has nothing to spare
abbrev pub AreClosed : List ℕ → Type 0
AreClosed spare = (m n : ℕ) → m < 64 → n < 64 → slice_index spare m ≡ 0 → slice_index spare n ≡ 0 → slice_index spare (bit_and m n) ≡ 0

-- each of the first sets that holds the traits has one to spare
abbrev pub HasSpareBelow : ℕ → List ℕ → TraitSet → Type 0
HasSpareBelow bound spare traits = (m : ℕ) → m < bound → IsTrue (is_within traits (record { 0 = m })) → 0 < slice_index spare m

-- the set has nothing to spare and holds the traits, and is within each of the first sets of which this is so
pub record IsLeastFull (bound : ℕ) (spare : List ℕ) (traits set : TraitSet) : Type 0 where
  pub small : set.0 < 64
  pub full : slice_index spare set.0 ≡ 0
  pub holds : IsTrue (is_within traits set)
  pub least : (m : ℕ) → m < bound → IsTrue (is_within traits (record { 0 = m })) → slice_index spare m ≡ 0 → IsTrue (is_within set (record { 0 = m }))

-- that set of the first ones, where there is any
abbrev pub IsLeastOf : ℕ → List ℕ → TraitSet → Option TraitSet → Type 0
IsLeastOf bound spare traits None = HasSpareBelow bound spare traits
IsLeastOf bound spare traits (Some set) = IsLeastFull bound spare traits set

-- the traits that both sets hold, or those of the second where there is no first
abbrev pub met : Option TraitSet → TraitSet → TraitSet
met None set = set
met (Some other) set = record { 0 = bit_and other.0 set.0 }
