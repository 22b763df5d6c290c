-- A reader of rows: what it keeps, and what completes its text.
use Rattle.std.specs.Prelude.{◌≡◌, ◌<◌, ◌+◌, ◌^◌, ℕ, List, [], length}
use Rattle.kept_rows.specs.declared.rows.AllotRow.{AllotRow}
use Rattle.text_readers.specs.Parts.{AreSmall, AreSpelled}
use Rattle.text_readers.specs.Reading.{Grammar}
use Rattle.publish.specs.Rows.{IsEnd, IsRest, IsRowsText, Read}
use Rattle.publish.specs.declared.rows.RowsReader.{RowsReader}
use Rattle.publish.specs.declared.stage.Stage.{Stage}
use Rattle.publish.specs.declared.stage.Stage.TheVariants.{Head, Rows, Done}

-- what completes the text of a reader at each stage
abbrev pub grammar_at : Stage → RowsReader → Grammar Read
grammar_at Head r = IsRowsText r.sort r.matrix.now r.people.now r.number
grammar_at Rows r = IsRest r.sort r.matrix.now r.people.now r.number r.left r.rows
grammar_at Done r = IsEnd r.number r.rows

-- what completes the text of a reader at the stage where it is
abbrev pub grammar_of : RowsReader → Grammar Read
grammar_of r = grammar_at r.stage r

-- a number above that of the lines to come
abbrev pub lines_left : Stage → ℕ → ℕ → ℕ
lines_left Head people left = people + 3
lines_left Rows people left = left + 2
lines_left Done people left = 1

-- before the first line there are no rows
abbrev pub IsFresh : Stage → List AllotRow → Type 0
IsFresh Head rows = rows ≡ []
IsFresh Rows rows = Unit {0}
IsFresh Done rows = Unit {0}

-- The codes are spelled, and neither the people nor the rows to come are too many.
pub record KeepsRows (r : RowsReader) : Type 0 where
  pub spelled : AreSpelled r.matrix.now
  pub small : AreSmall r.people.now
  pub few : length r.people.now < 2 ^ 31
  pub fresh : IsFresh r.stage r.rows
