-- The rule of the office without its last step: no seat that a category leaves empty is given to anybody else.
use Rattle.std.specs.Prelude.{◌≡◌, false, List, []}
use Rattle.office_base.specs.Lists.{IsAmong}
use Rattle.office_base.specs.Merit.{in_merit}
use Rattle.office_base.specs.StepChoice.{IsStepChoice}
use Rattle.office_base.specs.declared.person.Person.{Person}
use Rattle.office_base.specs.declared.step.StepKind.{StepKind}
use Rattle.office_base.specs.declared.step.StepKind.TheVariants.{Dereserved}
use Rattle.allocations.specs.Rule.{Rule}
use Rattle.kept_seats.specs.Kept.{StepRule, with_kept}
use Rattle.rounds.specs.Rule.{nobody}
use Rattle.seat_matrix.specs.Matrix.{SeatTable, seats_in}
use Rattle.seat_matrix.specs.Seats.{is_dereserved}
use Rattle.seat_matrix.specs.declared.seats.ProgrammeSeats.{ProgrammeSeats}
use Rattle.programme_lists.specs.Programme.{Admissions, admitted_by, step_of}

-- The admissions are the choices of the steps that have seats of their own, as in the choice of a programme, and nobody else is admitted.
pub record IsChoiceOfOwnSteps (seats : ProgrammeSeats) (applicants : List Person) (admissions : Admissions) : Type 0 where
  pub own : (kind : StepKind) → is_dereserved kind ≡ false → IsStepChoice (step_of seats applicants admissions kind) (admissions kind)
  pub nobody_else : admissions Dereserved ≡ []

-- a programme of the matrix chooses as these choices say
abbrev pub own_steps_of : SeatTable → StepRule
own_steps_of table p people person kind =
    (admissions : Admissions) × IsChoiceOfOwnSteps (seats_in table p) (in_merit (seats_in table p).list people) admissions × IsAmong person (admitted_by admissions kind)

-- and admits whom it chooses, where nobody is guaranteed a seat
abbrev pub rule_of_own_steps : SeatTable → Rule
rule_of_own_steps table = with_kept nobody (own_steps_of table)
