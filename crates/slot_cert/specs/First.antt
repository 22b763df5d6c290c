-- The first of the longest placements, down the people: each is placed on the first trait that leaves as many to be
-- placed as before.
use Rattle.std.specs.Prelude.{◌≡◌, ◌<◌, ◌≤◌, ◌-◌, ◌⊎◌, ℕ, true, false, List, [], ◌∷◌, Option, Some, None, IsTrue}
use Rattle.office_base.specs.Person.{has_trait}
use Rattle.office_base.specs.Placement.{protected}
use Rattle.office_base.specs.declared.person.Person.{Person}
use Rattle.office_base.specs.declared.person.TraitSet.{TraitSet}
use Rattle.office_base.specs.declared.step.Protections.{Protections}
use Rattle.placements.specs.Greatest.{one_less}
use Rattle.slot_cert.specs.Bounds.{bound}

-- no bound of a set with the trait is below the number that is to be placed
abbrev pub Keeps : Protections → List Person → ℕ → ℕ → Type 0
Keeps protections people most t = (set : TraitSet) → set.0 < 64 → has_trait set t ≡ true → most ≤ bound set protections people

-- one of those bounds is
abbrev pub Loses : Protections → List Person → ℕ → ℕ → Type 0
Loses protections people most t = (set : TraitSet) × (set.0 < 64) × (has_trait set t ≡ true) × (bound set protections people < most)

-- a person with these traits can be placed on this one without loss: it is held, and a position of it is left
pub record MayTake (protections : Protections) (people : List Person) (most : ℕ) (traits : TraitSet) (t : ℕ) : Type 0 where
  pub held : IsTrue (has_trait traits t)
  pub left : 0 < protected protections t
  pub keeps : Keeps protections people most t

-- a person with these traits does not: it is not held, or no position of it is left, or there is a loss
abbrev pub MustPass : Protections → List Person → ℕ → TraitSet → ℕ → Type 0
MustPass protections people most traits t = (has_trait traits t ≡ false) ⊎ ((protected protections t ≡ 0) ⊎ Loses protections people most t)

-- the first trait on which a person with these traits can be placed without loss, or None
abbrev pub IsFirstChoice : Protections → List Person → ℕ → TraitSet → Option ℕ → Type 0
IsFirstChoice protections people most traits None = (t : ℕ) → t < 6 → MustPass protections people most traits t
IsFirstChoice protections people most traits (Some t) = (t < 6) × MayTake protections people most traits t × ((s : ℕ) → s < t → MustPass protections people most traits s)

-- the slots down the people, of whom so many are to be placed: each is the first choice in front of those who follow
abbrev pub AreFirstSlots : Protections → List Person → ℕ → List (Option ℕ) → Type 0
AreFirstSlots protections [] most [] = Unit {0}
AreFirstSlots protections [] most (slot ∷ slots) = ⊥
AreFirstSlots protections (person ∷ people) most [] = ⊥
AreFirstSlots protections (person ∷ people) most (None ∷ slots) = IsFirstChoice protections people most person.traits None × AreFirstSlots protections people most slots
AreFirstSlots protections (person ∷ people) most (Some t ∷ slots) = IsFirstChoice protections people most person.traits (Some t) × AreFirstSlots (one_less protections t) people (most - 1) slots
