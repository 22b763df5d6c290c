-- A placement as a list of slots: one for each of the people, in their order.
use Rattle.std.specs.Prelude.{◌≤◌, ◌+◌, ℕ, suc, List, [], ◌∷◌, Option, Some, None, ◌==◌, if◌then◌else◌, IsTrue}
use Rattle.std.specs.List.{AllZip}
use Rattle.office_base.specs.Person.{has_trait}
use Rattle.office_base.specs.Placement.{protected}
use Rattle.office_base.specs.declared.person.Person.{Person}
use Rattle.office_base.specs.declared.step.Pair.{Pair}
use Rattle.office_base.specs.declared.step.Protections.{Protections}

-- a person may be on no position, or on one of a trait that the person holds
abbrev pub MayStand : Person → Option ℕ → Type 0
MayStand person None = Unit {0}
MayStand person (Some t) = IsTrue (has_trait person.traits t)

-- how many of the slots are on positions of a trait
abbrev pub used : ℕ → List (Option ℕ) → ℕ
used t [] = 0
used t (None ∷ slots) = used t slots
used t (Some s ∷ slots) = (if s == t then 1 else 0) + used t slots

-- how many of the slots are on positions
abbrev pub filled : List (Option ℕ) → ℕ
filled [] = 0
filled (None ∷ slots) = filled slots
filled (Some s ∷ slots) = suc (filled slots)

-- the slots of a placement: each person may be there, and no trait has more than its positions
pub record AreSlots (protections : Protections) (people : List Person) (slots : List (Option ℕ)) : Type 0 where
  pub held : AllZip MayStand people slots
  pub within : (t : ℕ) → used t slots ≤ protected protections t

-- the pairs of those who are on a position, in the order of the people
abbrev pub pairs_of : List Person → List (Option ℕ) → List Pair
pairs_of [] slots = []
pairs_of (person ∷ people) [] = []
pairs_of (person ∷ people) (None ∷ slots) = pairs_of people slots
pairs_of (person ∷ people) (Some t ∷ slots) = record { cand = person.id; slot = t } ∷ pairs_of people slots
