-- Rows as they are written: every field in quotes, each LF inside a field as a space, and an LF after each row.
use Rattle.std.specs.Prelude.{◌≡◌, ℕ, Bool, true, false, not, ◌==◌, List, [], ◌∷◌, ◌++◌, map, if◌then◌else◌}
use Rattle.csv.specs.Writing.{default_writer, fields_written, has_written, with_flexible, with_style, writer_setup}
use Rattle.csv.specs.declared.writer.QuoteStyle.TheVariants as style
use Rattle.csv.specs.declared.writer.Writer.{Writer}
use Rattle.csv.specs.declared.writer.WriterBuilder.{WriterBuilder}
use Rattle.section_rows.specs.Rows.{Row}

-- a byte, or a space where it is an LF
abbrev pub no_lf : ℕ → ℕ
no_lf byte = if byte == 10 then 32 else byte

-- a field with spaces for its LFs
abbrev pub spaced : List ℕ → List ℕ
spaced field = map no_lf field

abbrev pub spaced_row : Row → Row
spaced_row row = map spaced row

-- bytes with each quote twice
abbrev pub doubled : List ℕ → List ℕ
doubled [] = []
doubled (byte ∷ bytes) = if byte == 34 then 34 ∷ byte ∷ doubled bytes else byte ∷ doubled bytes

abbrev pub in_quotes : List ℕ → List ℕ
in_quotes field = 34 ∷ (doubled field ++ 34 ∷ [])

-- a comma comes before every field but the first
abbrev pub comma_before : Bool → List ℕ
comma_before first = if first then [] else 44 ∷ []

-- an LF ends a row; two quotes before it represent the fields of a row that has none
abbrev pub end_after : Bool → List ℕ
end_after none = if none then 34 ∷ 34 ∷ 10 ∷ [] else 10 ∷ []

-- fields of a row, of which the first is the row's first one or a further one, and the row's end
abbrev pub fields_text : Bool → Row → List ℕ
fields_text first [] = end_after first
fields_text first (field ∷ fields) = (comma_before first ++ in_quotes field) ++ fields_text false fields

abbrev pub row_text : Row → List ℕ
row_text row = fields_text true row

abbrev pub rows_text : List Row → List ℕ
rows_text [] = []
rows_text (row ∷ rows) = row_text row ++ rows_text rows

-- how the writer of `csv` is set up for that
abbrev pub quoting : WriterBuilder
quoting = with_flexible (with_style default_writer style.Always) true

-- a writer that has written so many fields of a row
pub record IsAt {W : Type 0} (at : ℕ) (writer : Writer W) : Type 0 where
  pub setup : writer_setup writer ≡ quoting
  pub count : (fields_written writer == 0) ≡ (at == 0)
  pub shown : has_written writer ≡ not (at == 0)
