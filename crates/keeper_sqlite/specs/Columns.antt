-- What a row that a query shows means.
use Rattle.std.specs.Prelude.{◌≡◌, List, [], Option, Some, None, slice_get}
use Rattle.sqlite.specs.Order.{Row}
use Rattle.keeper_sqlite.specs.declared.rising.Key.{Key}
pub use Rattle.stored_tables.specs.Columns.{Holds, IsChoiceAt, IsSeatKindAt, IsStepAt, IsNumbered, IsAnswerRow, IsRaiseRow, IsAllotRow, IsPhaseRow, TellsPhase, IsPartRow}

-- rnd, cand
pub record IsKeyRow (row : Row) (key : Key) : Type 0 where
  pub round : Holds row 16 0 key.round
  pub cand : Holds row 32 1 key.cand.0

-- no row shows no key, and otherwise the first row shows the last key
abbrev pub TellsKey : List Row → Option Key → Type 0
TellsKey rows None = rows ≡ []
TellsKey rows (Some key) = (row : Row) × (slice_get rows 0 ≡ Some row) × IsKeyRow row key
