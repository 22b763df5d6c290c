-- The first of the longest placements, as slots, and the trait of the first person there.
use Rattle.std.specs.Prelude.{◌≡◌, ◌≤◌, ◌<◌, ℕ, suc, List, [], ◌∷◌, Option, Some, IsTrue}
use Rattle.office_base.specs.Certificate.{AreNoLater}
use Rattle.office_base.specs.Person.{has_trait}
use Rattle.office_base.specs.Placement.{protected}
use Rattle.office_base.specs.declared.person.Person.{Person}
use Rattle.office_base.specs.declared.step.Protections.{Protections}
use Rattle.placements.specs.Greatest.{one_less, IsGreatest}
use Rattle.placements.specs.Slots.{filled, AreSlots}

-- the slots of the first of the longest placements
pub record IsFirst (left : Protections) (people : List Person) (slots : List (Option ℕ)) : Type 0 where
  pub stand : AreSlots left people slots
  pub most : (others : List (Option ℕ)) → AreSlots left people others → filled others ≤ filled slots
  pub first : (others : List (Option ℕ)) → AreSlots left people others → filled others ≡ filled slots → AreNoLater slots others

-- no slots with so many on positions have the first person on a trait below the bound
abbrev pub StandsOnNoneBelow : ℕ → Protections → List Person → ℕ → Type 0
StandsOnNoneBelow bound left people number = (t : ℕ) (slots : List (Option ℕ)) → t < bound → AreSlots left people (Some t ∷ slots) → suc (filled slots) < number

-- in no longest placement the first person is placed on a trait
abbrev pub StandsNowhere : Protections → List Person → Type 0
StandsNowhere left people = (number t : ℕ) (slots : List (Option ℕ)) → IsGreatest left people number → AreSlots left people (Some t ∷ slots) → suc (filled slots) < number

-- the smallest trait on which the first person is placed in a longest placement
abbrev pub IsFirstStand : Protections → List Person → ℕ → Type 0
IsFirstStand left [] t = ⊥
IsFirstStand left (person ∷ others) t = IsTrue (has_trait person.traits t) × (0 < protected left t)
    × ((number : ℕ) × IsGreatest (one_less left t) others number × IsGreatest left (person ∷ others) (suc number) × StandsOnNoneBelow t left (person ∷ others) (suc number))
