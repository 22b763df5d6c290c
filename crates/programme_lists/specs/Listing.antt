-- The lists that a programme shows of its steps.
use Rattle.std.specs.Prelude.{◌≡◌, ℕ, List, length}
use Rattle.std.specs.List.{AllZip}
use Rattle.office_base.specs.CategorySteps.{all_steps}
use Rattle.office_base.specs.Certificate.{IsCanonical}
use Rattle.office_base.specs.declared.person.Person.{Person}
use Rattle.office_base.specs.declared.step.Protections.{Protections}
use Rattle.office_base.specs.declared.step.StepKind.{StepKind}
use Rattle.office_base.specs.declared.step.StepKind.TheVariants.{Dereserved}
use Rattle.programme_lists.specs.Programme.{Admissions, admitted_by, unfilled, people_of, IsProgrammeChoice}
use Rattle.seat_matrix.specs.Seats.{seats_of}
use Rattle.programme_lists.specs.declared.programme.Programme.{Programme}
use Rattle.programme_lists.specs.declared.programme.StepList.{StepList}
use Rattle.seat_matrix.specs.declared.seats.ProgrammeSeats.{ProgrammeSeats}

-- the seats that a step fills; the de-reserved step fills those that categories left empty
abbrev pub seats_filled : ℕ → ProgrammeSeats → Admissions → StepKind → ℕ
seats_filled version seats admissions Dereserved = unfilled version seats admissions
seats_filled version seats admissions kind = (seats_of seats kind).seats

-- The list shows a step of these seats and protections, with these people, of whom some are admitted.
pub record Shows (kind : StepKind) (seats : ℕ) (protections : Protections) (people admitted : List Person) (list : StepList) : Type 0 where
  pub of_kind : list.kind ≡ kind
  pub of_seats : list.seats ≡ seats
  pub candidates : list.candidates ≡ length people
  pub persons : list.admitted ≡ admitted
  pub certificate : IsCanonical protections admitted list.cert.pairs

-- the list shows the step of this kind
abbrev pub ShowsStep : ℕ → ProgrammeSeats → List Person → Admissions → StepKind → StepList → Type 0
ShowsStep version seats applicants admissions kind list =
    Shows kind (seats_filled version seats admissions kind) (seats_of seats kind).protections (people_of seats.list applicants admissions kind) (admitted_by admissions kind) list

-- The programme shows its steps in their order.
abbrev pub ShowsSteps : ℕ → ProgrammeSeats → List Person → Admissions → Programme → Type 0
ShowsSteps version seats applicants admissions programme =
    AllZip (ShowsStep version seats applicants admissions) all_steps programme.steps

-- The programme shows its choice from these applicants, who are in merit order.
abbrev pub ShowsChoice : ℕ → ProgrammeSeats → List Person → Programme → Type 0
ShowsChoice version seats applicants programme =
    (admissions : Admissions) × IsProgrammeChoice version seats applicants admissions × ShowsSteps version seats applicants admissions programme
