-- Bounds on how many people can be placed at once, one for each set of traits: the positions of its traits, and the people who
-- hold a trait outside of it. The smallest of them is the number honoured (König 1931).
use Rattle.std.specs.Prelude.{◌≡◌, ◌<◌, ◌≤◌, ◌+◌, ℕ, List, slice_index}
use Rattle.office_base.specs.declared.person.Person.{Person}
use Rattle.office_base.specs.declared.person.TraitSet.{TraitSet}
use Rattle.office_base.specs.declared.step.Protections.{Protections}
use Rattle.placements.specs.Demand.{asking_outside, positions}

-- no more of the people than this can be placed
abbrev pub bound : TraitSet → Protections → List Person → ℕ
bound set protections people = positions protections set + asking_outside set people

-- no bound is smaller than this number, and one is no larger
pub record IsLeastBound (protections : Protections) (people : List Person) (most : ℕ) : Type 0 where
  pub below : (set : TraitSet) → set.0 < 64 → most ≤ bound set protections people
  pub met : (set : TraitSet) × (set.0 < 64) × (bound set protections people ≤ most)

-- the bounds of the sets of traits, by the numbers of the sets
abbrev pub AreBounds : List ℕ → Protections → List Person → Type 0
AreBounds bounds protections people = (n : ℕ) → n < 64 → slice_index bounds n ≡ bound (record { 0 = n }) protections people
