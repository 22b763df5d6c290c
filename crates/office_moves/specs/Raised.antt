-- The seat matrix with what was raised.
use Rattle.std.specs.Prelude.{◌+◌, ℕ, nat_lt, sum_by, List, [], ◌∷◌, if◌then◌else◌}
use Rattle.office_base.specs.CategorySteps.{own_steps}
use Rattle.kept_rows.specs.declared.rows.RaiseRow.{RaiseRow}
use Rattle.seat_matrix.specs.Matrix.{SeatTable, matrix_with, seating_in}
use Rattle.seat_matrix.specs.Seats.{of_step}
use Rattle.seat_matrix.specs.declared.seats.Seating.{Seating}
use Rattle.seat_matrix.specs.declared.seats.Seatings.{Seatings}
use Rattle.office_moves.specs.Facts.{SeasonFacts}
use Rattle.office_moves.specs.State.{State}

-- the seats of a row, with the protections that stand
abbrev pub raised_to : Seating → ℕ → Seating
raised_to seating seats = record { seats = seats; protections = seating.protections }

-- the matrix with the seats of these rows, each in the place of those before it; protections stay
abbrev pub raised : SeatTable → List RaiseRow → SeatTable
raised table [] = table
raised table (row ∷ rows) = raised (matrix_with table row.prog.0 row.step (raised_to (seating_in table row.prog.0 row.step) row.seats)) rows

-- the raises of the windows before this one
abbrev pub raised_before : ℕ → List RaiseRow → List RaiseRow
raised_before window [] = []
raised_before window (row ∷ rows) = if nat_lt row.window window then row ∷ raised_before window rows else raised_before window rows

-- the raised matrix: the season's with all raises so far, by which the next round is made
abbrev pub matrix_at : SeasonFacts → State → SeatTable
matrix_at facts state = raised facts.matrix state.raises

-- the matrix by which the round of this number, from 1, was made: with the raises of the windows up to its cut
abbrev pub matrix_of_round : SeasonFacts → State → ℕ → SeatTable
matrix_of_round facts state number = raised facts.matrix (raised_before number state.raises)

-- the seats of all steps of one programme, and of all programmes
abbrev pub seats_in_all : Seatings → ℕ
seats_in_all steps = sum_by (λ step. (of_step steps step).seats) own_steps

abbrev pub sum_of_seats : List Seatings → ℕ
sum_of_seats [] = 0
sum_of_seats (steps ∷ rest) = seats_in_all steps + sum_of_seats rest

abbrev pub total_seats : SeatTable → ℕ
total_seats table = sum_of_seats table.steps
