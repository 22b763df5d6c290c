-- How many a step of a programme admits.
use Rattle.std.proofs.Common.{◌≡◌, ◌≤◌, ℕ, false, List, length}
use Rattle.office_base.specs.declared.person.Person.{Person}
use Rattle.office_base.specs.declared.step.StepKind.{StepKind}
use Rattle.seat_matrix.specs.Matrix.{SeatTable, seating_in, seats_in}
use Rattle.seat_matrix.specs.Seats.{is_dereserved}
use Rattle.programme_lists.specs.Chosen.{ChoosesFrom}
use Rattle.programme_lists.specs.Programme.{Admissions, admitted_by}

-- No step with seats of its own admits more people than it has seats.
pub own_seats : (version : ℕ) (table : SeatTable) (prog : ℕ) (people : List Person) (admissions : Admissions) (step : StepKind) → ChoosesFrom version (seats_in table prog) people admissions
    → is_dereserved step ≡ false → length (admitted_by admissions step) ≤ (seating_in table prog step).seats
own_seats version table prog people admissions step choice own = (choice.own step own).may.seats
