-- The numbers of a record fit the columns of its table.
use Rattle.std.specs.Prelude.{◌<◌, ◌^◌}
use Rattle.kept_rows.specs.declared.rows.AnswerRow.{AnswerRow}
use Rattle.kept_rows.specs.declared.rows.AllotRow.{AllotRow}
use Rattle.kept_rows.specs.declared.rows.RaiseRow.{RaiseRow}

-- the numbers of an answer fit their columns
pub record AnswerFits (row : AnswerRow) : Type 0 where
  pub window : row.window < 2 ^ 16
  pub cand : row.cand.0 < 2 ^ 32
  pub turn : row.turn < 2 ^ 16

-- those of a raise
pub record RaiseFits (row : RaiseRow) : Type 0 where
  pub window : row.window < 2 ^ 16
  pub prog : row.prog.0 < 2 ^ 16
  pub seats : row.seats < 2 ^ 16

-- those of a published seat
pub record AllotFits (row : AllotRow) : Type 0 where
  pub round : row.round < 2 ^ 16
  pub cand : row.cand.0 < 2 ^ 32
  pub prog : row.prog.0 < 2 ^ 16
