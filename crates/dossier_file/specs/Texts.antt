-- How the texts of a dossier are cut apart, and what one that is due gives.
use Rattle.std.specs.Prelude.{◌≡◌, ◌≢◌, ◌<◌, ◌⊎◌, ◌+◌, ◌^◌, ℕ, List, [], ◌∷◌, ◌++◌, Option, Some, None, codes, length}
use Rattle.std.specs.Fmt.{decimal}
use Rattle.std.specs.List.{AllByRecursion, flat_map}
use Rattle.office_base.specs.Lists.{Pairwise}
use Rattle.office_base.specs.declared.person.Person.{Person}
use Rattle.text_readers.specs.Parts.{AreSmall, AreSpelled}
use Rattle.text_readers.specs.Reading.{Grammar, HasNo, IsFaultLine}
use Rattle.text_readers.specs.declared.fault.TextFault.{TextFault}
use Rattle.text_readers.specs.declared.fault.TextFault.TheVariants.{Line, OutOfMemory}
use Rattle.list_texts.specs.ListReader.{AreRising}
use Rattle.list_texts.specs.declared.lists.ListRead.{ListRead}
use Rattle.publish.specs.Rows.{IsFinalText}
use Rattle.publish.specs.declared.reads.FinalRead.{FinalRead}
use Rattle.publish.specs.declared.reads.RoundRead.{RoundRead}
use Rattle.seat_matrix.specs.Matrix.{SeatTable, codes_in}
use Rattle.dossier_file.specs.Papers.{IsListOf, IsRoundOf}
use Rattle.dossier_file.specs.declared.due.Due.{Due}
use Rattle.dossier_file.specs.declared.due.Due.TheVariants.{Round as RoundDue, List as ListDue, Final as FinalDue}
use Rattle.dossier_file.specs.declared.papers.Papers.{Papers}

-- ---- where one text ends

-- lines with their ends, one after another
abbrev pub joined : List (List ℕ) → List ℕ
joined lines = flat_map (λ line. line ++ 10 ∷ []) lines

-- whole lines, none of which is this one
abbrev pub AreOthers : List ℕ → List (List ℕ) → Type 0
AreOthers ending lines = AllByRecursion (λ line. HasNo 10 line × (line ≢ ending)) lines

-- The bytes are lines that are not the ending one, and then that one.
pub record IsEnding (ending bytes : List ℕ) : Type 0 where
  pub lines : List (List ℕ)
  pub others : AreOthers ending lines
  pub whole : bytes ≡ joined lines ++ (ending ++ 10 ∷ [])

-- No whole line of the bytes is the ending one.
pub record IsUnending (ending bytes : List ℕ) : Type 0 where
  pub lines : List (List ℕ)
  pub last : List ℕ
  pub others : AreOthers ending lines
  pub clear : HasNo 10 last
  pub whole : bytes ≡ joined lines ++ last

-- The bytes are cut after the first ending line; where there is none, at their end.
pub record IsSplitAfter (ending bytes piece rest : List ℕ) : Type 0 where
  pub whole : bytes ≡ piece ++ rest
  pub cut : IsEnding ending piece ⊎ (IsUnending ending piece × (rest ≡ []))

-- ---- how one text begins

-- the first words of the round of this number
abbrev pub round_start : ℕ → List ℕ
round_start number = codes "round " ++ (decimal number ++ codes " seated ")

-- the line after bytes without an LF: theirs, where there are none, else the one past their end
abbrev pub line_past : List ℕ → ℕ
line_past [] = 1
line_past (byte ∷ bytes) = 2

-- The bytes do not begin with the head. Where they are a part of it, the line is one past their end, else the first.
pub record IsNoHead (head bytes : List ℕ) (line : ℕ) : Type 0 where
  pub apart : (tail : List ℕ) → bytes ≡ head ++ tail → ⊥
  pub at : ((more : List ℕ) × (head ≡ bytes ++ more) × (line ≡ line_past bytes)) ⊎ (((more : List ℕ) → head ≡ bytes ++ more → ⊥) × (line ≡ 1))

-- ---- what one text gives

-- The piece ends with a whole line, with which every text ends that begins with the piece.
pub record IsEnded {A : Type 0} (grammar : Grammar A) (piece : List ℕ) : Type 0 where
  pub line : List ℕ
  pub whole : piece ≡ line ++ 10 ∷ []
  pub no_longer : (more : List ℕ) (value : A) → grammar (piece ++ more) value → more ≡ []

-- no text that begins the piece is shorter
abbrev pub IsLeast : {A : Type 0} → Grammar A → List ℕ → Type 0
IsLeast {A} grammar piece = (front tail : List ℕ) (value : A) → piece ≡ front ++ tail → grammar front value → tail ≡ []

-- The bytes begin with one text of the grammar, which is no beginning of another one, and the rest follows it.
pub record IsReadFrom {A : Type 0} (grammar : Grammar A) (bytes : List ℕ) (value : A) (rest : List ℕ) : Type 0 where
  pub piece : List ℕ
  pub whole : bytes ≡ piece ++ rest
  pub is : grammar piece value
  pub least : IsLeast grammar piece
  pub ended : IsEnded grammar piece

-- The bytes begin with no text of the grammar, and this is the line of the fault of the piece that should be one.
pub record IsFaultFrom {A : Type 0} (grammar : Grammar A) (bytes : List ℕ) (line : ℕ) : Type 0 where
  pub piece : List ℕ
  pub rest : List ℕ
  pub whole : bytes ≡ piece ++ rest
  pub least : IsLeast grammar piece
  pub ended : IsEnded grammar piece ⊎ (rest ≡ [])
  pub fault : IsFaultLine grammar piece line

-- `OutOfMemory` says nothing of the bytes
abbrev pub IsTextsFault : {A : Type 0} → Grammar A → List ℕ → TextFault → Type 0
IsTextsFault grammar bytes (Line n) = IsFaultFrom grammar bytes n
IsTextsFault grammar bytes OutOfMemory = Unit {0}

-- ---- one text after the other

-- The codes are spelled and distinct, and the ids are small and rise.
pub record AreReadable (table : SeatTable) (people : List Person) : Type 0 where
  pub spelled : AreSpelled table
  pub codes : Pairwise (λ a b. a ≢ b) (codes_in table.programmes)
  pub small : AreSmall people
  pub rising : AreRising people
  pub few : length people < 1000000

-- final admissions, unless there were some
abbrev pub or_else : {A : Type 0} → Option A → A → Option A
or_else None value = Some value
or_else (Some first) value = Some first

-- papers with one more after them
abbrev pub round_after : Papers → RoundRead → Papers
round_after papers read = record { rounds = papers.rounds ++ read ∷ []; lists = papers.lists; last = papers.last }

abbrev pub list_after : Papers → ListRead → Papers
list_after papers read = record { rounds = papers.rounds; lists = papers.lists ++ read ∷ []; last = papers.last }

abbrev pub final_after : Papers → FinalRead → Papers
final_after papers read = record { rounds = papers.rounds; lists = papers.lists; last = or_else papers.last read }

-- the bytes begin with the text that is due, which is put after the others, and the rest follows it
abbrev pub IsPut : SeatTable → List Person → ℕ → Due → List ℕ → List ℕ → Papers → Papers → Type 0
IsPut table people final (RoundDue number) bytes rest before after = (read : RoundRead) × IsReadFrom (IsRoundOf table people number) bytes read rest × (after ≡ round_after before read)
IsPut table people final (ListDue number prog) bytes rest before after = (read : ListRead) × IsReadFrom (IsListOf table people number prog.0) bytes read rest × (after ≡ list_after before read)
IsPut table people final FinalDue bytes rest before after = (read : FinalRead) × IsReadFrom (IsFinalText table people final) bytes read rest × (after ≡ final_after before read)

-- the line of the fault of the text that is due
abbrev pub IsDueFault : SeatTable → List Person → ℕ → Due → List ℕ → TextFault → Type 0
IsDueFault table people final (RoundDue number) bytes fault = IsTextsFault (IsRoundOf table people number) bytes fault
IsDueFault table people final (ListDue number prog) bytes fault = IsTextsFault (IsListOf table people number prog.0) bytes fault
IsDueFault table people final FinalDue bytes fault = IsTextsFault (IsFinalText table people final) bytes fault

-- the fault with so many lines before its line
abbrev pub after_lines : ℕ → TextFault → TextFault
after_lines before (Line n) = Line (before + n)
after_lines before OutOfMemory = OutOfMemory

-- its line has 32 bits then
abbrev pub HasRoom : ℕ → TextFault → Type 0
HasRoom before (Line n) = before + n < 2 ^ 32
HasRoom before OutOfMemory = Unit {0}
