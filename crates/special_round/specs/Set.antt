-- Within: one step after another of a matrix gets what final rows leave.
use Rattle.std.specs.Prelude.{◌≡◌, ℕ, false, List}
use Rattle.std.specs.List.{filter}
use Rattle.office_base.specs.Merit.{CanBeRanked}
use Rattle.office_base.specs.declared.person.Person.{Person}
use Rattle.office_base.specs.declared.step.StepKind.{StepKind}
use Rattle.kept_rows.specs.declared.rows.AllotRow.{AllotRow}
use Rattle.rank_lists.specs.Register.{AreRanks, Ranks}
use Rattle.seat_matrix.specs.Matrix.{HasSeating, SeatTable, list_in, matrix_with, seating_in, steps_in}
use Rattle.seat_matrix.specs.Seats.{is_dereserved}
use Rattle.seat_matrix.specs.declared.seats.Seating.{Seating}
use Rattle.special_round.specs.Remaining.{AreFinals, AreOwn, IsLeft, seats_left}
use Rattle.special_round.specs.Rows.{finals_of, is_row_in}

-- the seating is what rows leave of the table to a step of a programme
abbrev pub IsLeftOf : List Person → List AllotRow → SeatTable → ℕ → StepKind → Seating → Type 0
IsLeftOf people rows table prog step = IsLeft (list_in table prog) (seating_in table prog step) (finals_of people rows prog step) (seats_left table rows prog step)

-- One step of a matrix got that.
pub record IsSetIn (people : List Person) (rows : List AllotRow) (table : SeatTable) (prog : ℕ) (step : StepKind) (before after : SeatTable) : Type 0 where
  pub seating : Seating
  pub left : IsLeftOf people rows table prog step seating
  pub seats : HasSeating before prog step seating after
  pub whole : after ≡ matrix_with before prog step seating

-- Each step of one programme got that, and all others are as before.
pub record AreLeftIn (people : List Person) (rows : List AllotRow) (table : SeatTable) (prog : ℕ) (before after : SeatTable) : Type 0 where
  pub programmes : after.programmes ≡ before.programmes
  pub steps : (step : StepKind) → is_dereserved step ≡ false → IsLeftOf people rows table prog step (seating_in after prog step)
  pub alone : AreOwn (steps_in after prog)
  pub elsewhere : (other : ℕ) → (other ≡ prog → ⊥) → steps_in after other ≡ steps_in before other

-- The rows of a programme alone leave of its steps what all rows leave.
abbrev pub OwnRowsSayAll : Type 0
OwnRowsSayAll = (people : List Person) (rows : List AllotRow) (table : SeatTable) (prog : ℕ) (before after : SeatTable)
    → AreLeftIn people (filter (is_row_in prog) rows) table prog before after → AreLeftIn people rows table prog before after

-- The final persons of a step can be put in merit order, from the rows of the programme alone.
abbrev pub OwnRowsRank : Type 0
OwnRowsRank = (ranks : Ranks) (rows : List AllotRow) (table : SeatTable) (prog : ℕ) → AreRanks ranks → AreFinals ranks.people table rows
    → (step : StepKind) → CanBeRanked (list_in table prog) (finals_of ranks.people (filter (is_row_in prog) rows) prog step)
