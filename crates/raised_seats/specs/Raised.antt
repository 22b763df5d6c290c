-- A season's seats with what was raised.
use Rattle.std.specs.Prelude.{ℕ, List}
use Rattle.std.specs.List.{list_any}
use Rattle.kept_rows.specs.declared.rows.RaiseRow.{RaiseRow}
use Rattle.seat_matrix.specs.Matrix.{SeatTable, seating_in}
use Rattle.office_moves.specs.Decided.{same_raise}
use Rattle.office_moves.specs.Raised.{total_seats}
use Rattle.office_moves.specs.declared.decide.RaiseFacts.{RaiseFacts}

-- The matrix with all raises so far, and these raises in their order. `room` is how many more can be taken without memory.
pub record Raised : Type 0 where
  pub matrix : SeatTable
  pub raises : List RaiseRow
  pub room : ℕ

-- what a raise is judged by, in this open window of a season with this many rounds
abbrev pub looks_at : Raised → ℕ → ℕ → RaiseRow → RaiseFacts
looks_at raised window rounds row = record {
  again = list_any (same_raise row) raised.raises;
  window = window;
  rounds = rounds;
  seats = (seating_in raised.matrix row.prog.0 row.step).seats;
  total = total_seats raised.matrix;
}
