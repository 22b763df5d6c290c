-- The greatest number of slots on positions, and how it is found down the people.
use Rattle.std.specs.Prelude.{◌≡◌, ◌≤◌, ◌<◌, ◌-◌, ℕ, List, ◌∷◌, Option, Some, slice_set}
use Rattle.office_base.specs.Placement.{protected}
use Rattle.office_base.specs.declared.person.Person.{Person}
use Rattle.office_base.specs.declared.step.Protections.{Protections}
use Rattle.placements.specs.Slots.{filled, AreSlots}

-- the positions that are left once one of a trait is taken
abbrev pub one_less : Protections → ℕ → Protections
one_less protections t = record { counts = slice_set protections.counts t (protected protections t - 1) }

-- so many of the people's slots can be on positions, and no more
pub record IsGreatest (protections : Protections) (people : List Person) (number : ℕ) : Type 0 where
  pub reached : (slots : List (Option ℕ)) × AreSlots protections people slots × (filled slots ≡ number)
  pub most : (slots : List (Option ℕ)) → AreSlots protections people slots → filled slots ≤ number

-- the same, where the first of the people is placed nowhere or on a trait below a bound
pub record IsGreatestBelow (bound : ℕ) (protections : Protections) (person : Person) (people : List Person) (number : ℕ) : Type 0 where
  pub reached : (slots : List (Option ℕ)) × AreSlots protections (person ∷ people) slots × (filled slots ≡ number)
  pub nowhere : (slots : List (Option ℕ)) → AreSlots protections people slots → filled slots ≤ number
  pub somewhere : (t : ℕ) (slots : List (Option ℕ)) → t < bound → AreSlots protections (person ∷ people) (Some t ∷ slots) → filled slots < number
