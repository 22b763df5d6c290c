-- The course of the applications: each seeker tries the programmes of their list, one after another.
use Rattle.office_base.specs.Lists.{IsAmong, IsSublist}
use Rattle.std.specs.Prelude.{◌≡◌, ◌≢◌, ◌<◌, ◌≤◌, ◌+◌, ◌-◌, ◌↔◌, ◌⊎◌, ℕ, suc, List, [], ◌∷◌, Option, Some, None, slice_get, length, nat_lt}
use Rattle.office_base.specs.declared.person.Person.{Person}
use Rattle.office_base.specs.declared.seat.Seat.{Seat}
use Rattle.office_base.specs.declared.seat.SeatKind.{SeatKind}
use Rattle.allocations.specs.Fair.{IsFair}
use Rattle.allocations.specs.Market.{Seeker, place_of, rank_of, seat_at, those}
use Rattle.allocations.specs.Rule.{Rule}

-- those who tried a programme: it is on their list before the place that they try next
abbrev pub tried : ℕ → List Seeker → List ℕ → List Person
tried p seekers next = those (λ s n. nat_lt (place_of s.list p) n) seekers next

-- the programme that the seeker tried last admits the seeker, from those who tried it
abbrev pub IsHeld : Rule → ℕ → List Seeker → List ℕ → Seeker → ℕ → Type 0
IsHeld rule count seekers next s n = (p : ℕ) × (p < count) × (n ≡ place_of s.list p + 1) × ((kind : SeatKind) × rule p (tried p seekers next) s.person kind)

-- So far, some of the seekers tried some of the programmes of their lists, and each programme that admits one was tried last.
pub record IsUnderway (rule : Rule) (count : ℕ) (seekers : List Seeker) (next : List ℕ) : Type 0 where
  pub full : length next ≡ length seekers
  pub within : (i n : ℕ) (s : Seeker) → slice_get seekers i ≡ Some s → slice_get next i ≡ Some n → n ≤ length s.list
  -- a person whom a programme admits, from those who tried it, tried it last
  pub last : (p i n : ℕ) (s : Seeker) (kind : SeatKind) → p < count → slice_get seekers i ≡ Some s → slice_get next i ≡ Some n
      → rule p (tried p seekers next) s.person kind → n ≡ place_of s.list p + 1
  -- no fair allocation seats anyone before the place tried last, nor there, unless the programme there admits the seeker
  pub no_better : (others : List (Option Seat)) (i n : ℕ) (s : Seeker) (seat : Option Seat) → IsFair rule count seekers others → slice_get seekers i ≡ Some s
      → slice_get next i ≡ Some n → slice_get others i ≡ Some seat
      → (n ≤ rank_of s.list seat + 1) × (IsHeld rule count seekers next s n ⊎ (n ≤ rank_of s.list seat))

-- the seeker is admitted by the programme tried last, or has come to the end of the list
abbrev pub IsSettled : Rule → ℕ → List Seeker → List ℕ → Seeker → ℕ → Type 0
IsSettled rule count seekers next s n = IsHeld rule count seekers next s n ⊎ (n ≡ length s.list)

-- The seats are those that the programmes give to the ones whom they admit from all who tried them.
pub record AreSeatsOf (rule : Rule) (count : ℕ) (seekers : List Seeker) (next : List ℕ) (seats : List (Option Seat)) : Type 0 where
  pub full : length seats ≡ length seekers
  pub below : (i : ℕ) (seat : Seat) → slice_get seats i ≡ Some (Some seat) → seat.prog.0 < count
  pub each : (p i : ℕ) (s : Seeker) (kind : SeatKind) → p < count → slice_get seekers i ≡ Some s
      → rule p (tried p seekers next) s.person kind ↔ (slice_get seats i ≡ Some (Some (seat_at p kind)))

-- the places of the lists that are left to try
abbrev pub places_left : List Seeker → List ℕ → ℕ
places_left [] next = 0
places_left (s ∷ seekers) [] = 0
places_left (s ∷ seekers) (n ∷ next) = (length s.list - n) + places_left seekers next

-- the lengths of the lists, summed
abbrev pub places : List Seeker → ℕ
places [] = 0
places (s ∷ seekers) = length s.list + places seekers

-- the second people are the first, in their order, with one person more
pub record IsWith (x : Person) (some all : List Person) : Type 0 where
  pub within : IsSublist some all
  pub there : IsAmong x all
  pub fresh : IsAmong x some → ⊥
  pub only : (y : Person) → IsAmong y all → IsAmong y some ⊎ (y ≡ x)

-- the seeker at this place is not held, and tries the programme of this number next
pub record MayTry (rule : Rule) (count : ℕ) (seekers : List Seeker) (next : List ℕ) (i p n : ℕ) (s : Seeker) : Type 0 where
  pub there : slice_get seekers i ≡ Some s
  pub at : slice_get next i ≡ Some n
  pub below : p < count
  pub place : place_of s.list p ≡ n
  pub less : n < length s.list
  pub free : IsHeld rule count seekers next s n → ⊥

-- all seekers before this place are settled, but for the one at another place
abbrev pub AreSettledBut : Rule → ℕ → List Seeker → List ℕ → ℕ → ℕ → Type 0
AreSettledBut rule count seekers next i cur = (j n : ℕ) (s : Seeker) → j < i → j ≢ cur → slice_get seekers j ≡ Some s → slice_get next j ≡ Some n
    → IsSettled rule count seekers next s n

-- all seekers before this place are settled
abbrev pub AreSettled : Rule → ℕ → List Seeker → List ℕ → ℕ → Type 0
AreSettled rule count seekers next i = (j n : ℕ) (s : Seeker) → j < i → slice_get seekers j ≡ Some s → slice_get next j ≡ Some n → IsSettled rule count seekers next s n

-- from this place on nobody tried anything yet
abbrev pub HaveNotBegun : List ℕ → ℕ → Type 0
HaveNotBegun next i = (j n : ℕ) → i ≤ j → slice_get next j ≡ Some n → n ≡ 0

-- after an offer the programme admits whom it admitted before, but for the one at this place
abbrev pub KeepsAllBut : Rule → ℕ → List Seeker → List ℕ → List ℕ → ℕ → Type 0
KeepsAllBut rule p seekers next after out = (j : ℕ) (t : Seeker) → slice_get seekers j ≡ Some t → j ≢ out
    → ((kind : SeatKind) × rule p (tried p seekers next) t.person kind) → (kind : SeatKind) × rule p (tried p seekers after) t.person kind
