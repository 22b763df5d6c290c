-- Other numbers for the places of each list, the greater the greater.
use Rattle.std.specs.Prelude.{◌<◌, ℕ, suc, List, [], ◌∷◌}
use Rattle.office_base.specs.declared.person.Person.{Person}
use Rattle.office_base.specs.declared.person.Place.{Place}
use Rattle.office_base.specs.declared.person.Place.TheVariants.{Absent, Common, Relaxed}
use Rattle.published_rounds.specs.Order.{KeepsOrder}

-- the same kind of place, with another number
abbrev pub place_with : (ℕ → ℕ) → Place → Place
place_with number Absent = Absent
place_with number (Common n) = Common (number n)
place_with number (Relaxed n) = Relaxed (number n)

-- the places of the lists, each list with numbers of its own
abbrev pub places_with : (ℕ → ℕ → ℕ) → List Place → List Place
places_with numbers [] = []
places_with numbers (place ∷ places) = place_with (numbers 0) place ∷ places_with (λ i. numbers (suc i)) places

-- the same person with other numbers
abbrev pub with_numbers : (ℕ → ℕ → ℕ) → Person → Person
with_numbers numbers person = record person { places = places_with numbers person.places }

-- other numbers that rise with the old ones in each list, by whatever gaps, keep the order
abbrev pub RisingNumbersKeepOrder : Type 0
RisingNumbersKeepOrder = (numbers : ℕ → ℕ → ℕ) → ((list m n : ℕ) → m < n → numbers list m < numbers list n) → KeepsOrder (λ id. id) (with_numbers numbers)
