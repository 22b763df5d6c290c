-- The entries of all programmes' lists, and where they and a round's text differ.
use Rattle.std.specs.Prelude.{◌≡◌, ◌<◌, ◌+◌, ◌⊎◌, ℕ, suc, Bool, true, false, List, [], ◌∷◌, ◌++◌, Option, Some, None, length, map, slice_get}
use Rattle.office_base.specs.CategorySteps.{all_steps}
use Rattle.office_base.specs.Lists.{IsAmong}
use Rattle.office_base.specs.declared.seat.Seat.{Seat}
use Rattle.office_base.specs.declared.person.Person.{Person}
use Rattle.office_base.specs.declared.seat.SeatKind.TheVariants.{Under}
use Rattle.office_base.specs.declared.step.StepKind.{StepKind}
use Rattle.list_audit.specs.Clauses.{list_of_step}
use Rattle.programme_lists.specs.declared.programme.Programme.{Programme}
use Rattle.rank_lists.specs.Register.{row_of}
use Rattle.audit_rules.specs.declared.entries.Entry.{Entry}
use Rattle.audit_rules.specs.declared.unlisted.Miss.{Miss}

-- the entries of one step's list
abbrev pub of_step : ℕ → StepKind → List Person → List Entry
of_step p kind people = map (λ person. record { seat = record { prog = record { 0 = p }; step = Under kind }; cand = person.id }) people

abbrev pub of_kind : ℕ → Programme → StepKind → List Entry
of_kind p programme kind = of_step p kind (list_of_step programme kind).admitted

-- of the lists of these steps
abbrev pub of_kinds : ℕ → Programme → List StepKind → List Entry
of_kinds p programme [] = []
of_kinds p programme (kind ∷ kinds) = of_kind p programme kind ++ of_kinds p programme kinds

-- of all lists of a programme
abbrev pub of_programme : ℕ → Programme → List Entry
of_programme p programme = of_kinds p programme all_steps

-- of all programmes, from the one of this number on
abbrev pub entries_from : ℕ → List Programme → List Entry
entries_from p [] = []
entries_from p (programme ∷ rest) = of_programme p programme ++ entries_from (suc p) rest

-- ---- what differs

-- an entry of the programme names the person at this place, who has no such seat
abbrev pub IsWrong : List Person → List (Option Seat) → List Entry → ℕ → ℕ → Type 0
IsWrong people seats entries p at = (entry : Entry) × IsAmong entry entries × (entry.seat.prog.0 ≡ p) × (row_of entry.cand.0 people ≡ Some at) × (slice_get seats at ≡ Some (Some entry.seat) → ⊥)

-- an entry names the person at this place, who has that seat
abbrev pub IsNamedRight : List Person → List (Option Seat) → List Entry → ℕ → Type 0
IsNamedRight people seats entries at = (entry : Entry) × IsAmong entry entries × (row_of entry.cand.0 people ≡ Some at) × (slice_get seats at ≡ Some (Some entry.seat))

-- the places that are marked are those that entries name right
pub record AreMarked (people : List Person) (seats : List (Option Seat)) (entries : List Entry) (marks : List Bool) : Type 0 where
  pub full : length marks ≡ length people
  pub right : (at : ℕ) → slice_get marks at ≡ Some true → IsNamedRight people seats entries at
  pub marked : (at : ℕ) → IsNamedRight people seats entries at → slice_get marks at ≡ Some true

-- the first of the people, so many, of whom one has a seat of the programme, one of so many, without a mark
abbrev pub IsMissed : List (Option Seat) → List Bool → ℕ → ℕ → ℕ → ℕ → Type 0
IsMissed seats marks count first p at = (seat : Seat) × (at < first) × (slice_get seats at ≡ Some (Some seat)) × (seat.prog.0 ≡ p) × (p < count) × (slice_get marks at ≡ Some false)

-- the first place comes before the second: programme by programme, and in each down the register
abbrev pub ComesBefore : ℕ → ℕ → Miss → Type 0
ComesBefore p at miss = (p < miss.prog.0) ⊎ ((p ≡ miss.prog.0) × (at < miss.at))

-- the first of some misses; None where there is none
abbrev pub IsFirstMiss : (ℕ → ℕ → Type 0) → Option Miss → Type 0
IsFirstMiss P None = (p at : ℕ) → P p at → ⊥
IsFirstMiss P (Some miss) = P miss.prog.0 miss.at × ((p at : ℕ) → P p at → ComesBefore p at miss → ⊥)

-- the earlier one of a miss, where there is one, and another: a miss at this place
abbrev pub IsEarlier : Option Miss → ℕ → ℕ → Option Miss → Type 0
IsEarlier old p at None = ⊥
IsEarlier None p at (Some miss) = (miss.prog.0 ≡ p) × (miss.at ≡ at)
IsEarlier (Some old) p at (Some miss) = ((miss ≡ old) × (ComesBefore p at old → ⊥)) ⊎ ((miss.prog.0 ≡ p) × (miss.at ≡ at) × (ComesBefore old.prog.0 old.at miss → ⊥))

-- all misses: the wrong entries, and those of the first people, so many, whom no entry names
abbrev pub IsMiss : List Person → List (Option Seat) → List Entry → List Bool → ℕ → ℕ → ℕ → ℕ → Type 0
IsMiss people seats entries marks count first p at = IsWrong people seats entries p at ⊎ IsMissed seats marks count first p at

-- Whatever people, seats, entries and marks there are: if this is the seat of the candidate at a place, and whether there is a mark,
-- then from the first miss before that place follows the first one up to it.
abbrev pub TakesPlace : Option Seat → Bool → ℕ → ℕ → Option Miss → Option Miss → Type 0
TakesPlace seat marked count at first next =
    (people : List Person) (seats : List (Option Seat)) (entries : List Entry) (marks : List Bool) → slice_get seats at ≡ Some seat → slice_get marks at ≡ Some marked
    → IsFirstMiss (IsMiss people seats entries marks count at) first → IsFirstMiss (IsMiss people seats entries marks count (at + 1)) next

-- The marks and the first wrong entry are those of these entries.
pub record AreMarking (people : List Person) (seats : List (Option Seat)) (entries : List Entry) (marks : List Bool) (first : Option Miss) : Type 0 where
  pub marked : AreMarked people seats entries marks
  pub wrong : IsFirstMiss (IsWrong people seats entries) first
