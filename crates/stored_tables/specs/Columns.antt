-- What a row that a query shows represents.
use Rattle.std.specs.Prelude.{◌≡◌, ◌<◌, ◌^◌, ℕ, pos, List, [], ◌∷◌, Option, Some, None}
use Rattle.sqlite.specs.Order.{Row, column}
use Rattle.sqlite.specs.declared.types.Value.TheVariants.{Int, Blob}
use Rattle.office_base.specs.SeatKinds.{seat_kind_number}
use Rattle.office_base.specs.StepNumbers.{step_number}
use Rattle.office_base.specs.declared.choice.Choice.{Choice}
use Rattle.office_base.specs.declared.seat.SeatKind.{SeatKind}
use Rattle.office_base.specs.declared.step.StepKind.{StepKind}
use Rattle.kept_rows.specs.declared.rows.AnswerRow.{AnswerRow}
use Rattle.kept_rows.specs.declared.rows.AllotRow.{AllotRow}
use Rattle.kept_rows.specs.declared.rows.RaiseRow.{RaiseRow}
use Rattle.stored_tables.specs.Numbers.{choice_number}

-- a column holds this whole number of at most so many bits
abbrev pub Holds : Row → ℕ → ℕ → ℕ → Type 0
Holds row bits at n = (n < 2 ^ bits) × (column row at ≡ Int (pos n))

-- a column holds the number of this choice
abbrev pub IsChoiceAt : Row → ℕ → Choice → Type 0
IsChoiceAt row at choice = column row at ≡ Int (pos (choice_number choice))

-- a column holds the number of this step
abbrev pub IsStepAt : Row → ℕ → StepKind → Type 0
IsStepAt row at step = column row at ≡ Int (pos (step_number step))

-- a column holds the number of this kind of seat
abbrev pub IsSeatKindAt : Row → ℕ → SeatKind → Type 0
IsSeatKindAt row at kind = column row at ≡ Int (pos (seat_kind_number kind))

-- the number of a row, from 1
abbrev pub IsNumbered : Row → Type 0
IsNumbered row = (seq : ℕ) × (0 < seq) × (column row 0 ≡ Int (pos seq))

-- seq, win, cand, turn, choice
pub record IsAnswerRow (row : Row) (answer : AnswerRow) : Type 0 where
  pub seq : IsNumbered row
  pub window : Holds row 16 1 answer.window
  pub cand : Holds row 32 2 answer.cand.0
  pub turn : Holds row 16 3 answer.turn
  pub choice : IsChoiceAt row 4 answer.choice

-- seq, win, prog, step, seats
pub record IsRaiseRow (row : Row) (raise : RaiseRow) : Type 0 where
  pub seq : IsNumbered row
  pub window : Holds row 16 1 raise.window
  pub prog : Holds row 16 2 raise.prog.0
  pub step : IsStepAt row 3 raise.step
  pub seats : Holds row 16 4 raise.seats

-- rnd, cand, prog, step
pub record IsAllotRow (row : Row) (allot : AllotRow) : Type 0 where
  pub round : Holds row 16 0 allot.round
  pub cand : Holds row 32 1 allot.cand.0
  pub prog : Holds row 16 2 allot.prog.0
  pub step : IsSeatKindAt row 3 allot.step

-- id, which is 1, and cuts
pub record IsPhaseRow (row : Row) (made : ℕ) : Type 0 where
  pub id : column row 0 ≡ Int (pos 1)
  pub cuts : Holds row 16 1 made

-- no row tells of no season, and one row of the number of its cuts
abbrev pub TellsPhase : List Row → Option ℕ → Type 0
TellsPhase rows None = rows ≡ []
TellsPhase rows (Some made) = (row : Row) × (rows ≡ row ∷ []) × IsPhaseRow row made

-- part, from 0, and bytes
pub record IsPartRow (row : Row) (text : List ℕ) : Type 0 where
  pub part : (n : ℕ) × (column row 0 ≡ Int (pos n))
  pub bytes : column row 1 ≡ Blob text
