-- The rows of a section: its records as `csv` reads them, without the empty fields at their ends.
use Rattle.std.specs.Prelude.{ℕ, Bool, true, false, ◌&&◌, List, [], ◌∷◌, slice_index_or, bytes_eq}
use Rattle.csv.specs.Reading.{records, default_config, strip_bom}

-- a row is the list of its fields, and a field the list of its bytes
abbrev pub Row : Type 0
Row = List (List ℕ)

-- a field before others; an empty one before none is left out
abbrev pub before : List ℕ → Row → Row
before [] [] = []
before (byte ∷ field) [] = (byte ∷ field) ∷ []
before field (next ∷ fields) = field ∷ next ∷ fields

-- the fields of a record, without the empty ones at its end
abbrev pub without_empty_end : Row → Row
without_empty_end [] = []
without_empty_end (field ∷ fields) = before field (without_empty_end fields)

-- a row before others; one without fields is left out
abbrev pub row_before : Row → List Row → List Row
row_before [] rows = rows
row_before (field ∷ fields) rows = (field ∷ fields) ∷ rows

-- the rows of records: those that have fields left
abbrev pub rows_among : List Row → List Row
rows_among [] = []
rows_among (fields ∷ records) = row_before (without_empty_end fields) (rows_among records)

-- the rows of a section's body; a byte order mark at its start is skipped
unfoldable pub rows_of : List ℕ → List Row
rows_of body = rows_among (records default_config (strip_bom body))

-- the field of this number, from 0; a missing one is empty
abbrev pub field : Row → ℕ → List ℕ
field row n = slice_index_or row n []

-- two rows have the same fields
abbrev pub same_fields : Row → Row → Bool
same_fields [] [] = true
same_fields [] (name ∷ names) = false
same_fields (field ∷ fields) [] = false
same_fields (field ∷ fields) (name ∷ names) = bytes_eq field name && same_fields fields names

-- what a reader of rows has: the row it is at, and those left
pub record RowsAhead : Type 0 where
  pub row : Row
  pub left : List Row
