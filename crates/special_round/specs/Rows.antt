-- Final rows of a programme and of its steps, and seats of them in a round.
use Rattle.std.specs.Prelude.{ℕ, suc, Bool, true, false, ◌==◌, ◌&&◌, List, [], ◌∷◌, Option, Some, None, if◌then◌else◌}
use Rattle.office_base.specs.SeatKinds.{seat_kind_number}
use Rattle.office_base.specs.StepNumbers.{step_number}
use Rattle.office_base.specs.declared.seat.Seat.{Seat}
use Rattle.office_base.specs.declared.seat.SeatKind.{SeatKind}
use Rattle.office_base.specs.declared.seat.SeatKind.TheVariants.{Kept, Under}
use Rattle.office_base.specs.declared.person.Person.{Person}
use Rattle.office_base.specs.declared.step.StepKind.{StepKind}
use Rattle.kept_rows.specs.declared.rows.AllotRow.{AllotRow}
use Rattle.rank_lists.specs.Register.{find_person}

-- how many elements pass a test
abbrev pub how_many : {X : Type 0} → (X → Bool) → List X → ℕ
how_many test [] = 0
how_many test (x ∷ xs) = if test x then suc (how_many test xs) else how_many test xs

-- the seat is one of a step, and not one that is kept beyond them
abbrev pub is_of_a_step : SeatKind → Bool
is_of_a_step (Under step) = true
is_of_a_step Kept = false

-- ---- final rows

-- the row is one of the programme of this number
abbrev pub is_row_in : ℕ → AllotRow → Bool
is_row_in prog row = row.prog.0 == prog

-- and under this step
abbrev pub is_row_of : ℕ → StepKind → AllotRow → Bool
is_row_of prog step row = is_row_in prog row && (seat_kind_number row.step == step_number step)

-- how many rows the programme has under its steps; a kept seat is beyond them, and takes none of theirs
abbrev pub rows_in : List AllotRow → ℕ → ℕ
rows_in rows prog = how_many (λ row. is_row_in prog row && is_of_a_step row.step) rows

-- how many its step has
abbrev pub rows_of_step : List AllotRow → ℕ → StepKind → ℕ
rows_of_step rows prog step = how_many (is_row_of prog step) rows

-- and whose they are
abbrev pub before_those : Option Person → List Person → List Person
before_those None persons = persons
before_those (Some person) persons = person ∷ persons

abbrev pub finals_of : List Person → List AllotRow → ℕ → StepKind → List Person
finals_of people [] prog step = []
finals_of people (row ∷ rows) prog step =
    if is_row_of prog step row then before_those (find_person row.cand.0 people) (finals_of people rows prog step) else finals_of people rows prog step

-- ---- seats of a round

-- the seat is one of the programme of this number, under a step
abbrev pub is_seat_in : ℕ → Option Seat → Bool
is_seat_in prog None = false
is_seat_in prog (Some seat) = (seat.prog.0 == prog) && is_of_a_step seat.step

-- and under this step
abbrev pub is_seat_of : ℕ → StepKind → Option Seat → Bool
is_seat_of prog step None = false
is_seat_of prog step (Some seat) = (seat.prog.0 == prog) && (seat_kind_number seat.step == step_number step)

-- how many seats of the programme are held under its steps
abbrev pub seats_held : List (Option Seat) → ℕ → ℕ
seats_held seats prog = how_many (is_seat_in prog) seats

-- how many of its step
abbrev pub seats_of_step : List (Option Seat) → ℕ → StepKind → ℕ
seats_of_step seats prog step = how_many (is_seat_of prog step) seats
