-- What a piece of a line may begin.
use Rattle.std.specs.Prelude.{◌≡◌, ◌<◌, ◌≤◌, ◌+◌, ◌^◌, ◌⊎◌, ℕ, true, List, [], ◌∷◌, ◌++◌, length, codes}
use Rattle.std.specs.Fmt.{decimal}
use Rattle.office_base.specs.declared.person.Person.{Person}
use Rattle.office_base.specs.declared.seat.SeatKind.{SeatKind}
use Rattle.published_texts.specs.Texts.{code_in}
use Rattle.seat_matrix.specs.Matrix.{SeatTable}
use Rattle.step_lines.specs.Lines.{seat_kind_name}
use Rattle.text_readers.specs.Parts.{is_prefix}
use Rattle.publish.specs.Rows.{IsNumber, head_words}
use Rattle.publish.specs.declared.sort.Sort.{Sort}

-- a kind of seat and the end of the line
abbrev pub BeginsKind : List ℕ → Type 0
BeginsKind piece = (kind : SeatKind) × (is_prefix piece (seat_kind_name kind ++ 10 ∷ []) ≡ true)

-- the code of this programme and a kind of seat
abbrev pub BeginsCode : SeatTable → ℕ → List ℕ → Type 0
BeginsCode table prog piece = (kind : SeatKind) × (is_prefix piece (code_in table prog ++ 32 ∷ (seat_kind_name kind ++ 10 ∷ [])) ≡ true)

-- the code of a programme and a kind of seat
pub record BeginsSeat (table : SeatTable) (piece : List ℕ) : Type 0 where
  pub prog : ℕ
  pub within : prog < length table.programmes
  pub begins : BeginsCode table prog piece

-- a row of this candidate
pub record BeginsRow (word : List ℕ) (table : SeatTable) (id : ℕ) (piece : List ℕ) : Type 0 where
  pub prog : ℕ
  pub step : SeatKind
  pub within : prog < length table.programmes
  pub begins : is_prefix piece (word ++ (decimal id ++ 32 ∷ (code_in table prog ++ 32 ∷ (seat_kind_name step ++ 10 ∷ [])))) ≡ true

-- a row of one of the people after whom so many rows can follow
abbrev pub BeginsRows : List ℕ → SeatTable → ℕ → List Person → List ℕ → Type 0
BeginsRows word table left [] piece = ⊥
BeginsRows word table left (person ∷ people) piece = ((left ≤ length people + 1) × BeginsRow word table person.id.0 piece) ⊎ BeginsRows word table left people piece

-- the first line with a count up to this one
pub record BeginsHead (sort : Sort) (known most : ℕ) (piece : List ℕ) : Type 0 where
  pub number : ℕ
  pub count : ℕ
  pub numbered : IsNumber sort known number
  pub within : count ≤ most
  pub begins : is_prefix piece (head_words sort number count ++ 10 ∷ []) ≡ true

-- the number of a round
pub record IsRoundNumber (text : List ℕ) : Type 0 where
  pub number : ℕ
  pub within : number < 2 ^ 16
  pub same : text ≡ decimal number

-- the count of a round, with what comes before it
pub record BeginsSeated (most : ℕ) (piece : List ℕ) : Type 0 where
  pub count : ℕ
  pub within : count ≤ most
  pub begins : is_prefix piece (codes "seated " ++ (decimal count ++ 10 ∷ [])) ≡ true
