-- What a programme keeps while applicants come one at a time, and what comes of one of them.
use Rattle.std.specs.Prelude.{◌≡◌, ◌<◌, ◌++◌, ◌↔◌, [], ◌∷◌, ℕ, Bool, List, Option, Some, None, MatchOption, length, map, slice_get, take, if◌then◌else◌}
use Rattle.std.specs.Option.{option_or}
use Rattle.office_base.specs.CategorySteps.{all_steps, category_steps}
use Rattle.office_base.specs.Lists.{AnyByRecursion, IsAmong}
use Rattle.office_base.specs.Merit.{IsNewTo, with_person}
use Rattle.office_base.specs.StepChoice.{IsStepChoice}
use Rattle.office_base.specs.StepNumbers.{step_number}
use Rattle.office_base.specs.Version.{IsVersion}
use Rattle.office_base.specs.declared.category_steps.CategoryStep.{CategoryStep}
use Rattle.office_base.specs.declared.person.ListId.{ListId}
use Rattle.office_base.specs.declared.person.Person.{Person}
use Rattle.office_base.specs.Person.{is_common}
use Rattle.placements.specs.Ranks.{AreDistinct, without}
use Rattle.office_base.specs.declared.step.StepKind.{StepKind}
use Rattle.merit_choice.specs.State.{StepKept, step_with}
use Rattle.merit_choice.specs.declared.state.Offered.{Offered}
use Rattle.merit_choice.specs.declared.state.Offered.TheVariants.{Taken, Displaced, Refused}
use Rattle.office_base.specs.declared.step.StepKind.TheVariants.{Open, Dereserved}
use Rattle.seat_matrix.specs.Seats.{AreProgrammeSeats, seats_of}
use Rattle.seat_matrix.specs.declared.seats.ProgrammeSeats.{ProgrammeSeats}
use Rattle.programme_lists.specs.Chosen.{AreApplicants, ChoosesFrom, IsWith, everybody}
use Rattle.programme_lists.specs.Programme.{Admissions, is_of, unfilled}

-- the version, the seats, and whom each step admits of all who were offered, in the order of the steps
pub record ProgrammeKept : Type 0 where
  pub version : ℕ
  pub seats : ProgrammeSeats
  pub held : List (List Person)

-- the people at a place, if there are some
abbrev pub people_or_none : Option (List Person) → List Person
people_or_none None = []
people_or_none (Some people) = people

-- whom each step admits, from the lists of people in the order of the steps
abbrev pub by_number : List (List Person) → Admissions
by_number held kind = people_or_none (slice_get held (step_number kind))

abbrev pub admissions_of : ProgrammeKept → Admissions
admissions_of state = by_number state.held

-- The steps admit the choice from those whom they admit.
pub record IsProgrammeKept (state : ProgrammeKept) : Type 0 where
  pub is_version : IsVersion state.version
  pub are_seats : AreProgrammeSeats state.seats
  pub all_there : length state.held ≡ length all_steps
  pub may : AreApplicants state.seats.list (everybody (admissions_of state))
  pub choice : ChoosesFrom state.version state.seats (everybody (admissions_of state)) (admissions_of state)

-- nobody is admitted by any step
abbrev pub nobody : Admissions
nobody kind = []

-- a programme to which nobody came yet
abbrev pub empty_programme : ℕ → ProgrammeSeats → ProgrammeKept
empty_programme version seats = record { version = version; seats = seats; held = map (λ kind. []) all_steps }

-- if the programme held the choice from some applicants, it now holds the choice from all: those and this person
abbrev pub ChoosesOn : Person → ProgrammeKept → ProgrammeKept → Type 0
ChoosesOn person old new = (some all : List Person) → AreDistinct some → AreApplicants old.seats.list all → IsWith person some all → (IsAmong person some → ⊥)
    → ChoosesFrom old.version old.seats some (admissions_of old) → ChoosesFrom old.version old.seats all (admissions_of new)

-- what a step keeps for a programme
abbrev pub step_kept : ProgrammeSeats → StepKind → List Person → StepKept
step_kept seats kind held = record { list = seats.list; seats = (seats_of seats kind).seats; protections = (seats_of seats kind).protections; held = held }

-- what the steps of the categories keep for a programme
abbrev pub categories_kept : ProgrammeSeats → Admissions → List StepKept
categories_kept seats admissions = map (λ row. step_kept seats row.step (admissions row.step)) category_steps

-- whom the steps hold, from what those with seats of their own keep, and those whom the de-reserved one holds
abbrev pub people_held : StepKept → List StepKept → List Person → List (List Person)
people_held open_step categories last = open_step.held ∷ map (λ step. step.held) categories ++ last ∷ []

-- Each step keeps its own, and there is room for all who may hold de-reserved seats and one more.
pub record IsStateKept (state : ProgrammeKept) (open_step : StepKept) (categories : List StepKept) (size : ℕ) : Type 0 where
  pub kept : IsProgrammeKept state
  pub of_open : open_step ≡ step_kept state.seats Open (admissions_of state Open)
  pub of_categories : categories ≡ categories_kept state.seats (admissions_of state)
  pub room : unfilled state.version state.seats nobody < size

-- Who is left without a seat after a person came: nobody, so that all are held, or one of those held or the person,
-- and all others are held.
abbrev pub LeavesOut : Admissions → Person → Option Person → Admissions → Type 0
LeavesOut before person None after = (other : Person) → IsAmong other (everybody after) ↔ IsAmong other (person ∷ everybody before)
LeavesOut before person (Some gone) after = IsAmong gone (person ∷ everybody before)
    × ((other : Person) → IsAmong other (everybody after) ↔ (IsAmong other (person ∷ everybody before) × (other ≡ gone → ⊥)))

-- What comes of a person who is offered: all are held then; or one of those held has left; or all is as it was.
abbrev pub IsAnswered : ProgrammeKept → Person → Offered → ProgrammeKept → Type 0
IsAnswered before person Taken after = (other : Person) → IsAmong other (everybody (admissions_of after)) ↔ IsAmong other (person ∷ everybody (admissions_of before))
IsAnswered before person (Displaced cand) after = AnyByRecursion (λ one. one.id ≡ cand) (everybody (admissions_of before))
    × ((other : Person) → IsAmong other (everybody (admissions_of after)) ↔ (IsAmong other (person ∷ everybody (admissions_of before)) × (other.id ≡ cand → ⊥)))
IsAnswered before person Refused after = after ≡ before

-- ---- within

-- the person who comes, if the person passes the test
abbrev pub joining : (Person → Bool) → Option Person → Option Person
joining test None = None
joining test (Some person) = if test person then Some person else None

-- all of the people are held, but for the one who is left out
abbrev pub HoldsAllBut : Option Person → List Person → List Person → Type 0
HoldsAllBut None people held = held ≡ people
HoldsAllBut (Some gone) people held = IsAmong gone people × (held ≡ without gone.id people)

-- a step is offered the person who comes: one of its people joins, and the one left out continues; anybody else
-- continues
abbrev pub IsOffer : (Person → Bool) → StepKept → Option Person → Option Person → List Person → Type 0
IsOffer test step come gone after =
    MatchOption (joining test come) ((gone ≡ come) × (after ≡ step.held))
    (λ person. IsStepChoice (step_with step person) after × HoldsAllBut gone (with_person step.list person step.held) after)

-- the de-reserved step keeps the best on its seats: the next one is left out, or the person who comes and has no
-- common place
abbrev pub IsLastOffer : ListId → ℕ → List Person → Option Person → Option Person → List Person → Type 0
IsLastOffer list seats before come gone after =
    MatchOption (joining (is_common list) come) ((gone ≡ option_or come (slice_get before seats)) × (after ≡ take seats before))
    (λ person. (gone ≡ slice_get (with_person list person before) seats) × (after ≡ take seats (with_person list person before)))

-- A person comes to the steps of these rows, one after another: the one whom a step leaves out continues to the next.
abbrev pub AreOffered : ProgrammeSeats → Admissions → Admissions → List CategoryStep → Option Person → Option Person → Type 0
AreOffered seats before after [] come leaver = leaver ≡ come
AreOffered seats before after (row ∷ rows) come leaver =
    (next : Option Person) × IsOffer (is_of row.category) (step_kept seats row.step (before row.step)) come next (after row.step) × AreOffered seats before after rows next leaver

-- A person comes to the steps in their order: the one whom a step leaves out continues to the next. The de-reserved
-- step comes last, with the seats that are left to it now. The one whom it leaves out is left without a seat.
pub record IsOffered (version : ℕ) (seats : ProgrammeSeats) (before : Admissions) (person : Person) (after : Admissions) : Type 0 where
  pub left_by_open : Option Person
  pub left_by_categories : Option Person
  pub left_out : Option Person
  pub open_step : IsOffer (is_common seats.list) (step_kept seats Open (before Open)) (Some person) left_by_open (after Open)
  pub categories : AreOffered seats before after category_steps left_by_open left_by_categories
  pub dereserved : IsLastOffer seats.list (unfilled version seats after) (before Dereserved) left_by_categories left_out (after Dereserved)

-- the same of what the steps of rows keep: each keeps all of its own but whom it holds
abbrev pub AreHanded : List CategoryStep → List StepKept → List StepKept → Option Person → Option Person → Type 0
AreHanded [] before after come leaver = (after ≡ before) × (leaver ≡ come)
AreHanded (row ∷ rows) (old ∷ olds) (new ∷ news) come leaver =
    (next : Option Person) × IsOffer (is_of row.category) old come next new.held × (new ≡ record old { held = new.held }) × AreHanded rows olds news next leaver
AreHanded (row ∷ rows) _ _ come leaver = ⊥

-- whatever the steps before do, a person who comes to the step of a row is new to it
abbrev pub AreNew : List CategoryStep → List StepKept → Option Person → Type 0
AreNew [] steps come = Unit {0}
AreNew (row ∷ rows) [] come = ⊥
AreNew (row ∷ rows) (step ∷ steps) come = ((person : Person) → come ≡ Some person → IsNewTo step.list step.held person)
    × ((leaver : Option Person) (held : List Person) → IsOffer (is_of row.category) step come leaver held → AreNew rows steps leaver)

-- What an offer keeps: the steps admit the choice from those whom they admitted and the person.
abbrev pub OffersKeepChoices : Type 0
OffersKeepChoices = (version : ℕ) (seats : ProgrammeSeats) (before after : Admissions) (person : Person) → AreProgrammeSeats seats → AreApplicants seats.list (person ∷ everybody before)
    → ChoosesFrom version seats (everybody before) before → IsOffered version seats before person after → ChoosesFrom version seats (person ∷ everybody before) after

-- At most one is left without a seat by an offer, and all others are held.
abbrev pub OffersLeaveOne : Type 0
OffersLeaveOne = (version : ℕ) (seats : ProgrammeSeats) (before after : Admissions) (person : Person) → AreProgrammeSeats seats → AreApplicants seats.list (person ∷ everybody before)
    → ChoosesFrom version seats (everybody before) before → (offered : IsOffered version seats before person after)
    → LeavesOut before person offered.left_out after
