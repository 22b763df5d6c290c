-- The last of the needed within a set of traits.
use Rattle.std.specs.Prelude.{◌≡◌, ◌<◌, ◌≤◌, ℕ, List, Bool, true, false, length, slice_index_or}
use Rattle.office_base.specs.declared.person.Person.{Person}
use Rattle.office_base.specs.declared.person.TraitSet.{TraitSet}
use Rattle.placements.specs.Demand.{is_within}

-- at this place is a person whose mark is set and who holds no trait outside the set
pub record IsOneWithin (set : TraitSet) (people : List Person) (marks : List Bool) (at : ℕ) : Type 0 where
  pub inside : at < length people
  pub marked : slice_index_or marks at false ≡ true
  pub within : (other : Person) → is_within (slice_index_or people at other).traits set ≡ true

-- from this place on nobody does
abbrev pub AreNoneWithin : TraitSet → List Person → List Bool → ℕ → Type 0
AreNoneWithin set people marks from = (k : ℕ) → from ≤ k → IsOneWithin set people marks k → ⊥

-- the last place, from this one on, where one does
pub record IsLastWithin (set : TraitSet) (people : List Person) (marks : List Bool) (from at : ℕ) : Type 0 where
  pub since : from ≤ at
  pub here : IsOneWithin set people marks at
  pub later : (k : ℕ) → at < k → IsOneWithin set people marks k → ⊥
