-- Persons, and which of two is better (Baswana and others 2019: merit lists per programme).
use Rattle.std.specs.Prelude.{◌<◌, ◌≤◌, ◌-◌, ◌^◌, ◌==◌, ℕ, List, [], ◌∷◌, Option, Some, None, slice_index_or, Bool, true, false, not, nat_eq, bit_and, if◌then◌else◌}
use Rattle.office_base.specs.declared.person.ListId.{ListId}
use Rattle.office_base.specs.declared.person.TraitSet.{TraitSet}
use Rattle.office_base.specs.declared.person.Person.{Person}
use Rattle.office_base.specs.declared.person.Place.{Place}
use Rattle.office_base.specs.declared.person.Place.TheVariants.{Absent, Common, Relaxed}

-- the merit lists have the numbers 1 to 4
abbrev pub IsList : ListId → Type 0
IsList list = (1 ≤ list.0) × (list.0 ≤ 4)

-- there are six traits, so bits 6 and 7 are 0
abbrev pub IsTraitSet : TraitSet → Type 0
IsTraitSet traits = traits.0 < 64

-- the trait of this number is in the set
abbrev pub has_trait : TraitSet → ℕ → Bool
has_trait traits t = not (nat_eq (bit_and traits.0 (2 ^ t)) 0)

-- the number of a place, whether common or relaxed
abbrev pub number_of : Place → Option ℕ
number_of Absent = None
number_of (Common n) = Some n
number_of (Relaxed n) = Some n

-- a person's place in a list
abbrev pub place_in : ListId → Person → Place
place_in list person = slice_index_or person.places (list.0 - 1) Absent

-- a person's number in a list, if the person has a place there
abbrev pub number_in : ListId → Person → Option ℕ
number_in list person = number_of (place_in list person)

-- the first number is there, and so is the second, and the first is smaller
abbrev pub IsAhead : Option ℕ → Option ℕ → Type 0
IsAhead (Some m) (Some n) = m < n
IsAhead (Some m) None = ⊥
IsAhead None _ = ⊥

-- both have a place in the list, and the first one's number is smaller
abbrev pub IsBetter : ListId → Person → Person → Type 0
IsBetter list a b = IsAhead (number_in list a) (number_in list b)

-- a place that counts for open and de-reserved seats
abbrev pub is_common_place : Place → Bool
is_common_place Absent = false
is_common_place (Common n) = true
is_common_place (Relaxed n) = false

-- the person has a common place in the list
abbrev pub is_common : ListId → Person → Bool
is_common list person = is_common_place (place_in list person)

-- what a list that goes along with the people has for the person of this number
abbrev pub at_person : {X : Type 0} → ℕ → List Person → List X → Option X
at_person id [] xs = None
at_person id (person ∷ people) [] = None
at_person id (person ∷ people) (x ∷ xs) = if person.id.0 == id then Some x else at_person id people xs
