-- What is made before and after the applications: the effective lists, the lists of the programmes, and the seats from them.
use Rattle.std.specs.Prelude.{◌≡◌, ◌<◌, ◌≤◌, ◌+◌, ◌==◌, ℕ, List, [], ◌∷◌, Option, Some, None, length, slice_get, if◌then◌else◌}
use Rattle.office_base.specs.CategorySteps.{all_steps}
use Rattle.office_base.specs.Limits.{most_programmes}
use Rattle.office_base.specs.Lists.{IsAmong}
use Rattle.office_base.specs.declared.seat.Seat.{Seat}
use Rattle.office_base.specs.declared.person.Person.{Person}
use Rattle.office_base.specs.declared.person.ProgId.{ProgId}
use Rattle.office_base.specs.declared.seat.SeatKind.TheVariants.{Kept, Under}
use Rattle.office_base.specs.declared.step.StepKind.{StepKind}
use Rattle.allocations.specs.Course.{tried}
use Rattle.allocations.specs.Market.{place_of, seat_at}
use Rattle.programme_lists.specs.Chosen.{ShowsFrom}
use Rattle.programme_lists.specs.declared.programme.Programme.{Programme}
use Rattle.programme_lists.specs.declared.programme.StepList.{StepList}
use Rattle.office_base.specs.StepNumbers.{step_number}
use Rattle.seat_matrix.specs.Matrix.{SeatTable, seats_in}
use Rattle.seeks.specs.Seek.{seek_leaves}
use Rattle.seeks.specs.declared.seek.Seek.{Seek}
use Rattle.apply_engine.specs.Engine.{Setting, seekers_in}

-- what the seeks leave of the lists
abbrev pub leaves_along : SeatTable → List (List ProgId) → List Seek → List (List ProgId)
leaves_along table [] seeks = []
leaves_along table (list ∷ lists) [] = []
leaves_along table (list ∷ lists) (seek ∷ seeks) = seek_leaves table seek list ∷ leaves_along table lists seeks

-- Those admitted have this seat, and all others have what they had.
pub record IsPut (people : List Person) (seat : Seat) (admitted : List Person) (old new : List (Option Seat)) : Type 0 where
  pub full : length new ≡ length old
  pub here : (i : ℕ) (person : Person) → slice_get people i ≡ Some person → IsAmong person admitted → slice_get new i ≡ Some (Some seat)
  pub elsewhere : (i : ℕ) (person : Person) → slice_get people i ≡ Some person → (IsAmong person admitted → ⊥) → slice_get new i ≡ slice_get old i

-- each of them is one of the people
abbrev pub AreOf : List Person → List Person → Type 0
AreOf people some = (person : Person) → IsAmong person some → (i : ℕ) × (slice_get people i ≡ Some person)

-- Each programme shows its choice from those who tried it.
pub record AreListed (over : Setting) (next : List ℕ) (programmes : List Programme) : Type 0 where
  pub full : length programmes ≡ length over.table.programmes
  pub each : (p : ℕ) (programme : Programme) → slice_get programmes p ≡ Some programme → ShowsFrom over.version (seats_in over.table p) (tried p (seekers_in over) next) programme

-- those whom a programme's lists show as admitted by a step
abbrev pub admitted_of : Option StepList → List Person
admitted_of None = []
admitted_of (Some list) = list.admitted

abbrev pub shown : Programme → StepKind → List Person
shown programme kind = admitted_of (slice_get programme.steps (step_number kind))

-- the lists are in the order of the steps
pub record AreInOrder (programme : Programme) : Type 0 where
  pub whole : length programme.steps ≡ length all_steps
  pub each : (j : ℕ) (list : StepList) → slice_get programme.steps j ≡ Some list → step_number list.kind ≡ j

-- Those whom the first steps of a programme show have its seats, under their steps, and all others have what they had.
pub record ArePut (people : List Person) (p j : ℕ) (programme : Programme) (old new : List (Option Seat)) : Type 0 where
  pub full : length new ≡ length old
  pub here : (i : ℕ) (person : Person) (kind : StepKind) → step_number kind < j → slice_get people i ≡ Some person → IsAmong person (shown programme kind)
      → slice_get new i ≡ Some (Some (seat_at p (Under kind)))
  pub elsewhere : (i : ℕ) (person : Person) → slice_get people i ≡ Some person → ((kind : StepKind) → step_number kind < j → IsAmong person (shown programme kind) → ⊥)
      → slice_get new i ≡ slice_get old i

-- nobody is shown by two steps of a programme
abbrev pub IsShownOnce : Programme → Type 0
IsShownOnce programme = (person : Person) (kind other : StepKind) → IsAmong person (shown programme kind) → IsAmong person (shown programme other) → kind ≡ other

-- the seat is under a step that shows the person
pub record IsShownAs (programmes : List Programme) (person : Person) (seat : Seat) : Type 0 where
  pub kind : StepKind
  pub under : seat.step ≡ Under kind
  pub among : (programme : Programme) → slice_get programmes seat.prog.0 ≡ Some programme → IsAmong person (shown programme kind)

-- The seats are those that the first programmes show: each seat is one of them, and each of them is given.
pub record AreGiven (people : List Person) (programmes : List Programme) (p : ℕ) (seats : List (Option Seat)) : Type 0 where
  pub full : length seats ≡ length people
  pub given : (q i : ℕ) (programme : Programme) (person : Person) (kind : StepKind) → q < p → slice_get programmes q ≡ Some programme → slice_get people i ≡ Some person
      → IsAmong person (shown programme kind) → slice_get seats i ≡ Some (Some (seat_at q (Under kind)))
  pub only : (i : ℕ) (person : Person) (seat : Seat) → slice_get people i ≡ Some person → slice_get seats i ≡ Some (Some seat)
      → (seat.prog.0 < p) × IsShownAs programmes person seat

-- What the programmes of a round show: in order, each person of the register, and once in all.
pub record AreShown (people : List Person) (programmes : List Programme) : Type 0 where
  pub few : length programmes ≤ most_programmes
  pub in_order : (p : ℕ) (programme : Programme) → slice_get programmes p ≡ Some programme → AreInOrder programme
  pub of_people : (p : ℕ) (programme : Programme) (kind : StepKind) → slice_get programmes p ≡ Some programme → AreOf people (shown programme kind)
  pub once : (p q : ℕ) (programme other : Programme) (person : Person) (kind next : StepKind) → slice_get programmes p ≡ Some programme → slice_get programmes q ≡ Some other
      → IsAmong person (shown programme kind) → IsAmong person (shown other next) → (p ≡ q) × (kind ≡ next)

-- the seat beyond all steps that a person has who tried so much of this list, and is guaranteed a seat of this programme: one of it, if it was tried last
abbrev pub kept_seat : List ProgId → ℕ → Option ProgId → Option Seat
kept_seat list n None = None
kept_seat list n (Some prog) = if n == place_of list prog.0 + 1 then Some (seat_at prog.0 Kept) else None

-- the first seat, or the other one where there is none
abbrev pub or_seat : Option Seat → Option Seat → Option Seat
or_seat (Some seat) other = Some seat
or_seat None other = other

-- Whoever had a seat has it, and all others have one beyond the seats where they are guaranteed one.
pub record AreKept (lists : List (List ProgId)) (guaranteed : List (Option ProgId)) (next : List ℕ) (own seats : List (Option Seat)) : Type 0 where
  pub full : length seats ≡ length own
  pub each : (i n : ℕ) (list : List ProgId) (sure : Option ProgId) (first : Option Seat) → slice_get lists i ≡ Some list → slice_get guaranteed i ≡ Some sure
      → slice_get next i ≡ Some n → slice_get own i ≡ Some first → slice_get seats i ≡ Some (or_seat first (kept_seat list n sure))

-- each programme of the list is at its place
abbrev pub AreInPlace : List ProgId → Type 0
AreInPlace list = (k : ℕ) (prog : ProgId) → slice_get list k ≡ Some prog → place_of list prog.0 ≡ k

-- Along the seats are as many lists, each of distinct programmes, as many guarantees, and for each how much of the list was tried.
pub record AreTried (lists : List (List ProgId)) (guaranteed : List (Option ProgId)) (next : List ℕ) (own : List (Option Seat)) : Type 0 where
  pub lists_full : length lists ≡ length own
  pub sure : length guaranteed ≡ length own
  pub full : length next ≡ length own
  pub in_place : (i : ℕ) (list : List ProgId) → slice_get lists i ≡ Some list → AreInPlace list
  pub within : (i n : ℕ) (list : List ProgId) → slice_get lists i ≡ Some list → slice_get next i ≡ Some n → n ≤ length list

-- The seats are those that the programmes show, and beyond them those that are kept.
pub record AreSeated (people : List Person) (programmes : List Programme) (lists : List (List ProgId)) (guaranteed : List (Option ProgId)) (next : List ℕ) (seats : List (Option Seat)) : Type 0 where
  pub own : List (Option Seat)
  pub given : AreGiven people programmes (length programmes) own
  pub kept : AreKept lists guaranteed next own seats
