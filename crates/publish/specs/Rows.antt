-- The texts of rounds and of final admissions as they are read: rows of candidates, programmes and kinds of seats.
use Rattle.std.specs.Prelude.{◌≡◌, ◌<◌, ◌≤◌, ◌^◌, ◌==◌, ℕ, List, [], ◌∷◌, ◌++◌, Option, Some, None, bytes_eq, length, find, map, codes, if◌then◌else◌}
use Rattle.std.specs.Fmt.{decimal}
use Rattle.std.specs.List.{AllByRecursion, flat_map}
use Rattle.kept_rows.specs.declared.rows.AllotRow.{AllotRow}
use Rattle.office_base.specs.SeatKinds.{all_seat_kinds}
use Rattle.office_base.specs.Lists.{IsSublist}
use Rattle.office_base.specs.declared.person.Person.{Person}
use Rattle.office_base.specs.declared.seat.SeatKind.{SeatKind}
use Rattle.published_texts.specs.Texts.{code_in, final_text, round_head, seat_line}
use Rattle.seat_matrix.specs.Matrix.{SeatTable}
use Rattle.step_lines.specs.Lines.{seat_kind_name}
use Rattle.publish.specs.declared.parts.Row.{Row}
use Rattle.publish.specs.declared.reads.FinalRead.{FinalRead}
use Rattle.publish.specs.declared.reads.RoundRead.{RoundRead}
use Rattle.publish.specs.declared.sort.Sort.{Sort}
use Rattle.publish.specs.declared.sort.Sort.TheVariants.{Round, Final}

-- The candidates of the rows are some of these people, in their order; each row is of a programme of the matrix, and has this
-- number as its round.
pub record AreRows (table : SeatTable) (people : List Person) (number : ℕ) (rows : List AllotRow) : Type 0 where
  pub order : IsSublist (map (λ row. row.cand.0) rows) (map (λ person. person.id.0) people)
  pub known : AllByRecursion (λ row. (row.prog.0 < length table.programmes) × (row.round ≡ number)) rows

-- The text is that of final admissions, which have this number as their round.
pub record IsFinalText (table : SeatTable) (people : List Person) (number : ℕ) (text : List ℕ) (read : FinalRead) : Type 0 where
  pub rows : AreRows table people number read.rows
  pub same : text ≡ final_text table read.rows

-- the line of a published seat
abbrev pub allot_row_line : SeatTable → AllotRow → List ℕ
allot_row_line table row = codes "allot " ++ seat_line table row.cand.0 row.prog.0 row.step

-- the text of a round with these rows
abbrev pub round_rows_text : SeatTable → ℕ → List AllotRow → List ℕ
round_rows_text table number rows = round_head number (length rows) ++ flat_map (allot_row_line table) rows ++ codes "end round\n"

-- The text is that of the round of this number with these rows.
pub record IsRoundText (table : SeatTable) (people : List Person) (text : List ℕ) (read : RoundRead) : Type 0 where
  pub rows : AreRows table people read.round read.rows
  pub number : read.round < 2 ^ 16
  pub same : text ≡ round_rows_text table read.round read.rows

-- ---- the same texts by their lines

-- the kind of seat whose name the text is
abbrev pub written_kind : List ℕ → Option SeatKind
written_kind text = find (λ kind. bytes_eq text (seat_kind_name kind)) all_seat_kinds

-- a candidate, a programme and the kind of the seat, with the first word of their line
abbrev pub row_words : List ℕ → SeatTable → ℕ → ℕ → SeatKind → List ℕ
row_words word table cand prog step = word ++ (decimal cand ++ 32 ∷ (code_in table prog ++ 32 ∷ seat_kind_name step))

-- The line has these parts, and the programme is one of the matrix.
pub record IsRow (word : List ℕ) (table : SeatTable) (line : List ℕ) (cand prog : ℕ) (step : SeatKind) : Type 0 where
  pub same : line ≡ row_words word table cand prog step
  pub within : prog < length table.programmes

-- no candidate, programme and kind of seat have this line
abbrev pub IsNoRow : List ℕ → SeatTable → List ℕ → Type 0
IsNoRow word table line = (cand prog : ℕ) (step : SeatKind) → cand < 2 ^ 32 → IsRow word table line cand prog step → ⊥

-- the people after the first of this id
abbrev pub people_after : ℕ → List Person → Option (List Person)
people_after id [] = None
people_after id (person ∷ people) = if person.id.0 == id then Some people else people_after id people

-- the first word of a row
abbrev pub word : Sort → List ℕ
word Round = codes "allot "
word Final = codes "admit "

-- the last line
abbrev pub ending : Sort → List ℕ
ending Round = codes "end round"
ending Final = codes "end final"

-- the first line
abbrev pub head_words : Sort → ℕ → ℕ → List ℕ
head_words Round number count = codes "round " ++ (decimal number ++ 32 ∷ (codes "seated " ++ decimal count))
head_words Final number count = codes "final " ++ decimal count

-- a text gives the number of its round, or it does not and the number is this one
abbrev pub IsNumber : Sort → ℕ → ℕ → Type 0
IsNumber Round known number = number < 2 ^ 16
IsNumber Final known number = number ≡ known

-- the line of a row
abbrev pub row_line : Sort → SeatTable → AllotRow → List ℕ
row_line sort table row = row_words (word sort) table row.cand.0 row.prog.0 row.step ++ 10 ∷ []

-- rows and the last line
abbrev pub tail_text : Sort → SeatTable → List AllotRow → List ℕ
tail_text sort table rows = flat_map (row_line sort table) rows ++ (ending sort ++ 10 ∷ [])

-- These bytes are the lines of so many rows, and the last line.
pub record IsTail (sort : Sort) (table : SeatTable) (people : List Person) (number left : ℕ) (text : List ℕ) (rows : List AllotRow) : Type 0 where
  pub are : AreRows table people number rows
  pub count : length rows ≡ left
  pub same : text ≡ tail_text sort table rows

-- these rows, and after them the row of these parts with this number as its round
abbrev pub rows_with : ℕ → List AllotRow → Row → List AllotRow
rows_with number rows row = rows ++ record { round = number; cand = row.cand; prog = row.prog; step = row.step } ∷ []

-- So many rows can follow: there are people for them, and a programme where there is to be one.
pub record CanGoOn (table : SeatTable) (people : List Person) (left : ℕ) : Type 0 where
  pub few : left ≤ length people
  pub some : 0 < left → 0 < length table.programmes

-- what a text of rows says: the number of its round, and the rows
abbrev pub Read : Type 0
Read = ℕ × List AllotRow

-- a whole text
pub record IsRowsText (sort : Sort) (table : SeatTable) (people : List Person) (known : ℕ) (text : List ℕ) (read : Read) : Type 0 where
  pub rows : AreRows table people read.0 read.1
  pub number : IsNumber sort known read.0
  pub same : text ≡ head_words sort read.0 (length read.1) ++ 10 ∷ tail_text sort table read.1

-- what is left of a text after its first line and these rows
pub record IsRest (sort : Sort) (table : SeatTable) (people : List Person) (number left : ℕ) (rows : List AllotRow) (text : List ℕ) (read : Read) : Type 0 where
  pub numbered : read.0 ≡ number
  pub later : List AllotRow
  pub all : read.1 ≡ rows ++ later
  pub tail : IsTail sort table people number left text later

-- what is left of a text after its last line
pub record IsEnd (number : ℕ) (rows : List AllotRow) (text : List ℕ) (read : Read) : Type 0 where
  pub numbered : read.0 ≡ number
  pub all : read.1 ≡ rows
  pub empty : text ≡ []
