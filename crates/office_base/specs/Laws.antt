-- What holds of the words of the office.
use Rattle.std.specs.Prelude.{◌≡◌, ℕ, Some}
use Rattle.office_base.specs.CategorySteps.{step_of_number}
use Rattle.office_base.specs.SeatKinds.{seat_kind_number, seat_kind_of_number}
use Rattle.office_base.specs.StepNumbers.{step_number}
use Rattle.office_base.specs.declared.seat.SeatKind.{SeatKind}
use Rattle.office_base.specs.declared.step.StepKind.{StepKind}

-- Inverse: a step is the one of its number, and the number of that step is no other.
abbrev pub StepNumbersLaw : Type 0
StepNumbersLaw = ((step : StepKind) → step_of_number (step_number step) ≡ Some step)
    × ((n : ℕ) (step : StepKind) → step_of_number n ≡ Some step → step_number step ≡ n)

-- Inverse: a kind of seat is the one of its number, and the number of that kind is no other.
abbrev pub SeatKindNumbersLaw : Type 0
SeatKindNumbersLaw = ((kind : SeatKind) → seat_kind_of_number (seat_kind_number kind) ≡ Some kind)
    × ((n : ℕ) (kind : SeatKind) → seat_kind_of_number n ≡ Some kind → seat_kind_number kind ≡ n)
