-- Guaranteed seats: who is guaranteed a seat of a programme and applies there has one, if need be beyond its seats.
use Rattle.std.specs.Prelude.{◌≡◌, ◌<◌, ◌≤◌, ◌↔◌, ℕ, Bool, true, List, Option, Some, slice_get, length}
use Rattle.office_base.specs.Lists.{IsAmong}
use Rattle.office_base.specs.declared.seat.Seat.{Seat}
use Rattle.office_base.specs.declared.seat.SeatKind.{SeatKind}
use Rattle.office_base.specs.declared.seat.SeatKind.TheVariants.{Kept, Under}
use Rattle.office_base.specs.declared.person.Person.{Person}
use Rattle.office_base.specs.declared.step.StepKind.{StepKind}
use Rattle.allocations.specs.Fair.{IsBest, IsFair, IsMarket, IsNextMarket}
use Rattle.allocations.specs.Market.{Seeker, applicants, place_of, rank_of, seat_at}
use Rattle.allocations.specs.Rule.{Refuses, Rule, RuleBy}

-- who is guaranteed a seat of the programme of this number
abbrev pub Guarantees : Type 0
Guarantees = ℕ → Person → Bool

-- whom a programme chooses, and under which step
abbrev pub StepRule : Type 1
StepRule = RuleBy StepKind

-- The person applies, is guaranteed a seat there, and is not chosen.
pub record IsKept (rule : StepRule) (guaranteed : Guarantees) (p : ℕ) (people : List Person) (person : Person) : Type 0 where
  pub guaranteed_there : guaranteed p person ≡ true
  pub applies : IsAmong person people
  pub not_chosen : Refuses rule p people person

-- a programme admits whom the rule chooses, under the step of the choice, and beyond its seats whom it keeps
abbrev pub with_kept : Guarantees → StepRule → Rule
with_kept guaranteed rule p people person (Under step) = rule p people person step
with_kept guaranteed rule p people person Kept = IsKept rule guaranteed p people person

-- by the rule alone nobody is kept
abbrev pub alone : StepRule → Rule
alone rule p people person (Under step) = rule p people person step
alone rule p people person Kept = ⊥

-- who is guaranteed first is guaranteed after
abbrev pub GuaranteesMore : Guarantees → Guarantees → Type 0
GuaranteesMore guaranteed more = (p : ℕ) (person : Person) → guaranteed p person ≡ true → more p person ≡ true

-- ---- what follows, in every fair allocation of a market

-- Nobody who is guaranteed falls: who is guaranteed a seat of a programme of the own list has that seat or one further up the list.
abbrev pub NobodyGuaranteedFalls : Guarantees → StepRule → (ℕ → List Person → Type 0) → Type 0
NobodyGuaranteedFalls guaranteed rule MayApply = (count p i : ℕ) (seekers : List Seeker) (seats : List (Option Seat)) (s : Seeker) (seat : Option Seat)
    → IsMarket MayApply count seekers → IsFair (with_kept guaranteed rule) count seekers seats → slice_get seekers i ≡ Some s → slice_get seats i ≡ Some seat
    → guaranteed p s.person ≡ true → place_of s.list p < length s.list → rank_of s.list seat ≤ place_of s.list p

-- Every step chooses as ever: it seats whom the rule chooses under it, from all who apply.
abbrev pub StepsChooseAsEver : Guarantees → StepRule → Type 0
StepsChooseAsEver guaranteed rule = (count p i : ℕ) (seekers : List Seeker) (seats : List (Option Seat)) (s : Seeker) (step : StepKind)
    → IsFair (with_kept guaranteed rule) count seekers seats → p < count → slice_get seekers i ≡ Some s
    → rule p (applicants p seekers seats) s.person step ↔ (slice_get seats i ≡ Some (Some (seat_at p (Under step))))

-- A person is kept beyond the seats exactly if guaranteed there, applying and not chosen.
abbrev pub KeptIsExact : Guarantees → StepRule → Type 0
KeptIsExact guaranteed rule = (count p i : ℕ) (seekers : List Seeker) (seats : List (Option Seat)) (s : Seeker)
    → IsFair (with_kept guaranteed rule) count seekers seats → p < count → slice_get seekers i ≡ Some s
    → IsKept rule guaranteed p (applicants p seekers seats) s.person ↔ (slice_get seats i ≡ Some (Some (seat_at p Kept)))

-- everybody who is guaranteed a seat of a programme of the own list has that seat or one further up the list
abbrev pub NobodyNeeds : Guarantees → List Seeker → List (Option Seat) → Type 0
NobodyNeeds guaranteed seekers seats = (p i : ℕ) (s : Seeker) (seat : Option Seat) → slice_get seekers i ≡ Some s → slice_get seats i ≡ Some seat
    → guaranteed p s.person ≡ true → place_of s.list p < length s.list → rank_of s.list seat ≤ place_of s.list p

-- Without need nothing changes: if by the rule alone everybody guaranteed has what is guaranteed, the best allocation is the one by the rule alone.
abbrev pub NothingChangesWithoutNeed : Guarantees → StepRule → (ℕ → List Person → Type 0) → Type 0
NothingChangesWithoutNeed guaranteed rule MayApply = (count : ℕ) (seekers : List Seeker) (seats : List (Option Seat))
    → IsMarket MayApply count seekers → IsBest (alone rule) count seekers seats → NobodyNeeds guaranteed seekers seats → IsBest (with_kept guaranteed rule) count seekers seats

-- who is guaranteed a seat of a programme had a seat of it
abbrev pub GuaranteesHeld : Guarantees → List Seeker → List (Option Seat) → Type 0
GuaranteesHeld guaranteed seekers seats = (p i : ℕ) (s : Seeker) → slice_get seekers i ≡ Some s → guaranteed p s.person ≡ true
    → (kind : SeatKind) × (slice_get seats i ≡ Some (Some (seat_at p kind)))

-- Without orders rounds are those by the rule alone: where the next seekers narrow what they want, programmes still admit whom
-- they admitted, and only seats that were had by the rule alone are guaranteed, the next best allocation by the rule alone is the one with guarantees.
abbrev pub WithoutOrdersAsEver : StepRule → StepRule → (ℕ → List Person → Type 0) → Type 0
WithoutOrdersAsEver rule more MayApply = (guaranteed : Guarantees) (count : ℕ) (seekers next : List Seeker) (seats others : List (Option Seat))
    → IsMarket MayApply count seekers → IsMarket MayApply count next → IsNextMarket seekers seats next → GuaranteesHeld guaranteed seekers seats
    → IsFair (alone rule) count seekers seats → IsBest (alone more) count next others → IsBest (with_kept guaranteed more) count next others
