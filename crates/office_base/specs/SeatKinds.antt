-- The kinds of seats: one for each step, and last the seats that are kept beyond those of all steps.
use Rattle.std.specs.Prelude.{ℕ, ◌++◌, List, [], ◌∷◌, Option, map, slice_get}
use Rattle.office_base.specs.CategorySteps.{all_steps}
use Rattle.office_base.specs.StepNumbers.{step_number}
use Rattle.office_base.specs.declared.seat.SeatKind.{SeatKind}
use Rattle.office_base.specs.declared.seat.SeatKind.TheVariants.{Kept, Under}

-- all kinds of seats, in their order
abbrev pub all_seat_kinds : List SeatKind
all_seat_kinds = map Under all_steps ++ Kept ∷ []

-- the number of a kind of seat
abbrev pub seat_kind_number : SeatKind → ℕ
seat_kind_number (Under step) = step_number step
seat_kind_number Kept = 6

-- the kind of seat of a number, if there is one
abbrev pub seat_kind_of_number : ℕ → Option SeatKind
seat_kind_of_number number = slice_get all_seat_kinds number
