-- That the axioms name one choice alone, and that no single exchange improves it.
use Rattle.std.specs.Prelude.{◌≡◌, ◌↔◌, ℕ, List, length, min}
use Rattle.office_base.specs.Lists.{IsSublist}
use Rattle.office_base.specs.Merit.{in_merit}
use Rattle.office_base.specs.Placement.{IsHonoured}
use Rattle.office_base.specs.StepChoice.{IsStep, IsStepChoice, MayAdmit}
use Rattle.office_base.specs.declared.person.Person.{Person}
use Rattle.office_base.specs.declared.step.Step.{Step}
use Rattle.office_base.specs.declared.step.StepKind.{StepKind}
use Rattle.open_then_category.specs.Laws.{MeetsStepAxioms, whole_step}
use Rattle.programme_lists.specs.Chosen.{AreApplicants, ChoosesFrom}
use Rattle.programme_lists.specs.Programme.{Admissions, admitted_by}
use Rattle.seat_matrix.specs.Seats.{AreProgrammeSeats}
use Rattle.seat_matrix.specs.declared.seats.ProgrammeSeats.{ProgrammeSeats}
use Rattle.axiom_laws.specs.Exchanges.{Overtakes}

-- A set within the seats of a step that meets its axioms is the choice of the step.
abbrev pub OneMeetsTheAxiomsOfAStep : Type 0
OneMeetsTheAxiomsOfAStep = (step : Step) (chosen : List Person) → IsStep step → MayAdmit step chosen → MeetsStepAxioms step chosen → IsStepChoice step chosen

-- Each step admits some of its people, in merit order and within its seats, and these meet the axioms of the step.
-- The people of a category's step are those whom the open step left, and the last step has the people whom all others left.
-- So open seats are filled first.
pub record MeetsThemAtEachStep (version : ℕ) (seats : ProgrammeSeats) (applicants : List Person) (admissions : Admissions) : Type 0 where
  pub within : (kind : StepKind) → MayAdmit (whole_step version seats applicants admissions kind) (admitted_by admissions kind)
  pub axioms : (kind : StepKind) → MeetsStepAxioms (whole_step version seats applicants admissions kind) (admitted_by admissions kind)

-- Admissions that meet the axioms at each step of a programme are its choice. So no other rule meets them. (Each choice meets them: ChoicesMeetAxioms.)
abbrev pub OneMeetsTheAxioms : Type 0
OneMeetsTheAxioms = (version : ℕ) (seats : ProgrammeSeats) (people : List Person) (admissions : Admissions) → AreProgrammeSeats seats → AreApplicants seats.list people
    → MeetsThemAtEachStep version seats (in_merit seats.list people) admissions → ChoosesFrom version seats people admissions

-- So the axioms are the rule: admissions are the choice of a programme exactly where they meet the axioms at each of its steps.
abbrev pub AxiomsAreTheRule : Type 0
AxiomsAreTheRule = (version : ℕ) (seats : ProgrammeSeats) (people : List Person) (admissions : Admissions) → AreProgrammeSeats seats → AreApplicants seats.list people
    → ChoosesFrom version seats people admissions ↔ MeetsThemAtEachStep version seats (in_merit seats.list people) admissions

-- Those listed are some of the people in merit order, fill the seats as far as people go, and honour as much as all
-- of them. If nobody overtakes one of them, they are the choice of the step.
abbrev pub SingleExchanges : Type 0
SingleExchanges = (step : Step) (listed : List Person) (n : ℕ) → IsStep step → IsSublist listed step.people → length listed ≡ min step.seats (length step.people)
    → IsHonoured step.protections listed n → IsHonoured step.protections step.people n
    → ((person worse : Person) → Overtakes step.list step.protections step.people listed person worse → ⊥) → IsStepChoice step listed
