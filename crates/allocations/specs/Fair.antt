-- Fair allocations, justified claims, and the best allocation (Baswana and others 2019; Gale and Shapley 1962 for the best one).
use Rattle.std.specs.Prelude.{◌≡◌, ◌≢◌, ◌<◌, ◌≤◌, ◌↔◌, ℕ, List, Option, Some, None, slice_get, length, true}
use Rattle.office_base.specs.Lists.{Pairwise}
use Rattle.office_base.specs.declared.person.Person.{Person}
use Rattle.office_base.specs.declared.person.ProgId.{ProgId}
use Rattle.office_base.specs.declared.seat.Seat.{Seat}
use Rattle.office_base.specs.declared.seat.SeatKind.{SeatKind}
use Rattle.allocations.specs.Market.{Seeker, place_of, rank_of, seat_at, applies, applicants, holders, holders_and, wanting}
use Rattle.allocations.specs.Rule.{Rule}

-- The seekers of a round over that many programmes. Each id is there once, and each list names distinct programmes.
-- All who want a programme may apply to it together.
pub record IsMarket (MayApply : ℕ → List Person → Type 0) (count : ℕ) (seekers : List Seeker) : Type 0 where
  pub ids : Pairwise (λ (a b : Seeker). a.person.id ≢ b.person.id) seekers
  pub below : (i k : ℕ) (s : Seeker) (q : ProgId) → slice_get seekers i ≡ Some s → slice_get s.list k ≡ Some q → q.0 < count
  pub distinct : (i k : ℕ) (s : Seeker) (q : ProgId) → slice_get seekers i ≡ Some s → slice_get s.list k ≡ Some q → place_of s.list q.0 ≡ k
  pub may_apply : (p : ℕ) → p < count → MayApply p (wanting p seekers)

-- the seat is one of the seeker's own list, or there is none
abbrev pub IsOwn : List ProgId → Option Seat → Type 0
IsOwn list None = Unit {0}
IsOwn list (Some seat) = place_of list seat.prog.0 < length list

-- One entry for each seeker: no seat, or a seat of the seeker's own list.
pub record IsAllocation (seekers : List Seeker) (seats : List (Option Seat)) : Type 0 where
  pub full : length seats ≡ length seekers
  pub own : (i : ℕ) (s : Seeker) (seat : Option Seat) → slice_get seekers i ≡ Some s → slice_get seats i ≡ Some seat → IsOwn s.list seat

-- Each programme admits, from those who apply to it, exactly those who hold a seat of it, under the steps of their seats.
pub record IsFair (rule : Rule) (count : ℕ) (seekers : List Seeker) (seats : List (Option Seat)) : Type 0 where
  pub allocation : IsAllocation seekers seats
  pub agrees : (p i : ℕ) (s : Seeker) (kind : SeatKind) → p < count → slice_get seekers i ≡ Some s
      → rule p (applicants p seekers seats) s.person kind ↔ (slice_get seats i ≡ Some (Some (seat_at p kind)))

-- A justified claim: the seeker at this place wants the programme more than their seat, or has no seat, and the
-- programme admits the seeker next to those who hold it.
pub record HasClaim (rule : Rule) (seekers : List Seeker) (seats : List (Option Seat)) (i p : ℕ) : Type 0 where
  pub s : Seeker
  pub there : slice_get seekers i ≡ Some s
  pub seat : Option Seat
  pub has : slice_get seats i ≡ Some seat
  pub before : place_of s.list p < rank_of s.list seat
  pub kind : SeatKind
  pub admitted : rule p (holders_and p s.person.id.0 seekers seats) s.person kind

-- Nobody has a justified claim, and each programme admits all who hold a seat of it, from these alone, under the steps of their seats.
pub record IsJustified (rule : Rule) (count : ℕ) (seekers : List Seeker) (seats : List (Option Seat)) : Type 0 where
  pub allocation : IsAllocation seekers seats
  pub no_claim : (p i : ℕ) → p < count → HasClaim rule seekers seats i p → ⊥
  pub keeps : (p i : ℕ) (s : Seeker) (kind : SeatKind) → p < count → slice_get seekers i ≡ Some s
      → slice_get seats i ≡ Some (Some (seat_at p kind)) → rule p (holders p seekers seats) s.person kind

-- the first allocation gives each seeker the same place of the list as the second, or an earlier one
abbrev pub AreNoWorse : List Seeker → List (Option Seat) → List (Option Seat) → Type 0
AreNoWorse seekers seats others = (i : ℕ) (s : Seeker) (seat other : Option Seat) → slice_get seekers i ≡ Some s → slice_get seats i ≡ Some seat
    → slice_get others i ≡ Some other → rank_of s.list seat ≤ rank_of s.list other

-- It is fair, and no fair allocation gives anyone better.
pub record IsBest (rule : Rule) (count : ℕ) (seekers : List Seeker) (seats : List (Option Seat)) : Type 0 where
  pub fair : IsFair rule count seekers seats
  pub best : (others : List (Option Seat)) → IsFair rule count seekers others → AreNoWorse seekers seats others

-- The same persons seek in the next round, and each of them wants only programmes to which the person applied in the last one.
pub record IsNextMarket (seekers : List Seeker) (seats : List (Option Seat)) (next : List Seeker) : Type 0 where
  pub same : length next ≡ length seekers
  pub persons : (i : ℕ) (s t : Seeker) → slice_get seekers i ≡ Some s → slice_get next i ≡ Some t → s.person ≡ t.person
  pub narrowed : (p i : ℕ) (s t : Seeker) (seat : Option Seat) → slice_get seekers i ≡ Some s → slice_get next i ≡ Some t → slice_get seats i ≡ Some seat
      → place_of t.list p < length t.list → applies p s.list seat ≡ true
