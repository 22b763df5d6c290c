-- Those who apply to each programme, by their places in the register.
use Rattle.std.specs.Prelude.{◌≡◌, ℕ, suc, List, [], ◌∷◌, Option, Some, None, length, slice_get, if◌then◌else◌}
use Rattle.office_base.specs.declared.seat.Seat.{Seat}
use Rattle.office_base.specs.declared.person.Person.{Person}
use Rattle.allocations.specs.Market.{Seeker, applies}

-- the person, where there is one, before others
abbrev pub with_one : Option Person → List Person → List Person
with_one None people = people
with_one (Some person) people = person ∷ people

-- the people at some places
abbrev pub picked : List Person → List ℕ → List Person
picked people [] = []
picked people (at ∷ places) = with_one (slice_get people at) (picked people places)

-- the places of those who apply to a programme, of seekers who stand from this place on
abbrev pub places_from : ℕ → ℕ → List Seeker → List (Option Seat) → List ℕ
places_from p at [] seats = []
places_from p at (s ∷ seekers) [] = []
places_from p at (s ∷ seekers) (seat ∷ seats) = if applies p s.list seat then at ∷ places_from p (suc at) seekers seats else places_from p (suc at) seekers seats

-- one list of places for each of so many programmes
pub record AreGroups (count : ℕ) (seekers : List Seeker) (seats : List (Option Seat)) (groups : List (List ℕ)) : Type 0 where
  pub full : length groups ≡ count
  pub each : (p : ℕ) (group : List ℕ) → slice_get groups p ≡ Some group → group ≡ places_from p 0 seekers seats
