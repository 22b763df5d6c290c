-- How many are kept beyond the seats: no more than there were orders.
use Rattle.std.specs.Prelude.{◌≡◌, ◌≢◌, ◌≤◌, ◌+◌, ℕ, zero, suc, Bool, true, false, List, [], ◌∷◌, Option, Some, None, slice_get, length, if◌then◌else◌}
use Rattle.office_base.specs.declared.seat.SeatKind.{SeatKind}
use Rattle.office_base.specs.declared.seat.SeatKind.TheVariants.{Kept, Under}
use Rattle.office_base.specs.declared.seat.Seat.{Seat}
use Rattle.office_base.specs.declared.person.Person.{Person}
use Rattle.allocations.specs.Fair.{IsFair, IsMarket, IsNextMarket}
use Rattle.allocations.specs.Market.{Seeker}
use Rattle.kept_seats.specs.Kept.{StepRule, Guarantees, GuaranteesHeld, with_kept}

-- the programme keeps the person
abbrev pub is_kept : SeatKind → Bool
is_kept (Under step) = false
is_kept Kept = true

-- the seat is one beyond the seats of a programme
abbrev pub is_beyond : Option Seat → Bool
is_beyond None = false
is_beyond (Some seat) = is_kept seat.step

-- how many pass a test
abbrev pub count_of : (Option Seat → Bool) → List (Option Seat) → ℕ
count_of test [] = 0
count_of test (seat ∷ seats) = (if test seat then 1 else 0) + count_of test seats

-- how many seats are beyond those of the programmes
abbrev pub count_beyond : List (Option Seat) → ℕ
count_beyond seats = count_of is_beyond seats

-- Without an order nobody is newly kept: where the next seekers narrow what they want, programmes still admit whom they
-- admitted, and only seats that were had are guaranteed, who is kept beyond the seats was kept so before.
abbrev pub NobodyNewlyKept : StepRule → StepRule → (ℕ → List Person → Type 0) → Type 0
NobodyNewlyKept rule more MayApply = (guaranteed next_guaranteed : Guarantees) (count : ℕ) (seekers next : List Seeker) (seats others : List (Option Seat))
    → IsMarket MayApply count seekers → IsNextMarket seekers seats next → GuaranteesHeld next_guaranteed seekers seats
    → IsFair (with_kept guaranteed rule) count seekers seats → IsFair (with_kept next_guaranteed more) count next others
    → count_beyond others ≤ count_beyond seats

-- An order about the seeker at this place: that one may be another entry, with another list and other guarantees, and everybody else is as before.
pub record IsOrder (i : ℕ) (guaranteed other : Guarantees) (seekers told : List Seeker) : Type 0 where
  pub same : length told ≡ length seekers
  pub others : (j : ℕ) → j ≢ i → slice_get told j ≡ slice_get seekers j
  pub guarantees : (j p : ℕ) (s : Seeker) → j ≢ i → slice_get seekers j ≡ Some s → other p s.person ≡ guaranteed p s.person

-- An order makes at most one seat more beyond those of the programmes.
abbrev pub OneSeatAnOrder : StepRule → (ℕ → List Person → Type 0) → Type 0
OneSeatAnOrder rule MayApply = (guaranteed other : Guarantees) (count i : ℕ) (seekers told : List Seeker) (seats others : List (Option Seat))
    → IsMarket MayApply count seekers → IsMarket MayApply count told → IsOrder i guaranteed other seekers told
    → IsFair (with_kept guaranteed rule) count seekers seats → IsFair (with_kept other rule) count told others
    → count_beyond others ≤ count_beyond seats + 1

-- that many orders, one after another, each about one seeker of a market
abbrev pub AreOrders : (ℕ → List Person → Type 0) → ℕ → ℕ → Guarantees → List Seeker → Guarantees → List Seeker → Type 0
AreOrders MayApply count zero guaranteed seekers other told = (told ≡ seekers) × ((p : ℕ) (person : Person) → other p person ≡ guaranteed p person)
AreOrders MayApply count (suc n) guaranteed seekers other told = (i : ℕ) × (between : Guarantees) × (mid : List Seeker) × IsMarket MayApply count mid
    × IsOrder i guaranteed between seekers mid × AreOrders MayApply count n between mid other told

-- Orders make at most as many seats beyond those of the programmes.
abbrev pub OneSeatForEachOrder : StepRule → (ℕ → List Person → Type 0) → Type 0
OneSeatForEachOrder rule MayApply = (n count : ℕ) (guaranteed other : Guarantees) (seekers told : List Seeker) (seats others : List (Option Seat))
    → IsMarket MayApply count seekers → AreOrders MayApply count n guaranteed seekers other told
    → IsFair (with_kept guaranteed rule) count seekers seats → IsFair (with_kept other rule) count told others
    → count_beyond others ≤ count_beyond seats + n
