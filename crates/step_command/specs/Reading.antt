-- How far a sheet has been read.
use Rattle.std.specs.Prelude.{◌≡◌, ◌≤◌, ◌<◌, ◌+◌, ◌==◌, ℕ, Bool, false, List, [], ◌∷◌, length, take, drop, map, Option, Some, None}
use Rattle.std.specs.List.{list_any, AllByRecursion}
use Rattle.office_base.specs.Limits.{most_candidates}
use Rattle.office_base.specs.Person.{IsAhead, number_in}
use Rattle.office_base.specs.StepChoice.{AreRanked}
use Rattle.office_base.specs.declared.person.Person.{Person}
use Rattle.office_text.specs.FirstFault.{Judge, fault_at}
use Rattle.office_text.specs.Lines.{lines_of, fields_of, trimmed}
use Rattle.step_command.specs.declared.fault.SheetError.{SheetError}
use Rattle.step_command.specs.declared.fault.SheetError.TheVariants.{Bad, OutOfMemory}
use Rattle.step_command.specs.declared.fault.SheetFault.{SheetFault}
use Rattle.step_command.specs.declared.fault.SheetKind.{SheetKind}
use Rattle.step_command.specs.declared.fault.SheetKind.TheVariants.{BadLine}
use Rattle.step_command.specs.Sheet.{filled, numbers_from, texts_of, numbers_of, is_protect, first_fault, seats_fault, seats_of, count_of, none_named, named_from, cand_lines, body_judge, cand_judge, ids_of, people_from, IsFaultOfRows}

-- the fields after the comma of a field, where it has one
abbrev pub fields_after : Option (List ℕ) → List (List ℕ)
fields_after None = []
fields_after (Some rest) = fields_of rest

-- the rows of bytes after the first line
abbrev pub rest_rows : List ℕ → List (List ℕ)
rest_rows bytes = filled (map trimmed (lines_of bytes))

-- the numbers of these rows and of the end, where the first line of the bytes has this number
abbrev pub rest_numbers : ℕ → List ℕ → List ℕ
rest_numbers n bytes = numbers_from n (map trimmed (lines_of bytes))

-- the first row protects seats
abbrev pub protects_next : List (List ℕ) → Bool
protects_next [] = false
protects_next (line ∷ lines) = is_protect line

-- Bytes after the mark begin with the first line of a sheet and a line of seats, and go on with the rest at this line.
pub record HasHead (bytes : List ℕ) (seats next : ℕ) (rest : List ℕ) : Type 0 where
  pub first : List ℕ
  pub second : List ℕ
  pub number : ℕ
  pub rows : texts_of (map trimmed (lines_of bytes)) ≡ first ∷ second ∷ rest_rows rest
  pub numbers : numbers_of (map trimmed (lines_of bytes)) ≡ 1 ∷ number ∷ rest_numbers next rest
  pub sheet : first_fault first ≡ None
  pub given : seats_of second ≡ Some seats

-- The next row gives this many seats, and the rest at this line goes on.
pub record HasSeats (bytes : List ℕ) (number seats : ℕ) (next : ℕ) (rest : List ℕ) : Type 0 where
  pub row : List ℕ
  pub at : ℕ
  pub rows : rest_rows bytes ≡ row ∷ rest_rows rest
  pub numbers : rest_numbers number bytes ≡ at ∷ rest_numbers next rest
  pub given : seats_of row ≡ Some seats

-- what is wrong with the first of the rows as the row of the seats, or with their end where there is none
abbrev pub seats_row_fault : List (List ℕ) → Option SheetKind
seats_row_fault [] = Some BadLine
seats_row_fault (line ∷ rows) = seats_fault line

-- The first of the rows or their end has this fault, and this number.
pub record IsSeatsFault (rows : List (List ℕ)) (numbers : List ℕ) (fault : SheetFault) : Type 0 where
  pub after : List ℕ
  pub line : numbers ≡ fault.line ∷ after
  pub kind : seats_row_fault rows ≡ Some fault.kind

-- The first rows have no fault, and what is wrong with the others is what the second judge says of them alone.
pub record ArePassed (judge : Judge (List ℕ) SheetKind) (rows : List (List ℕ)) (numbers : List ℕ) (next : Judge (List ℕ) SheetKind) (others : List (List ℕ)) (after : List ℕ) : Type 0 where
  pub count : ℕ
  pub rows_left : length rows ≡ count + length others
  pub numbers_left : drop count numbers ≡ after
  pub before : (m : ℕ) → m < count → fault_at judge rows m ≡ None
  pub same : (m n : ℕ) → n ≡ count + m → fault_at judge rows n ≡ fault_at next others m

-- The first rows after the seats protect seats, and none of the others: these are the traits named, and what is left.
pub record AreNamed (seats : ℕ) (rows : List (List ℕ)) (numbers : List ℕ) (named : List (Option ℕ)) (others : List (List ℕ)) (after : List ℕ) : Type 0 where
  pub passed : ArePassed (body_judge seats none_named) rows numbers (body_judge seats named) others after
  pub named_same : named_from none_named rows ≡ named_from named others
  pub cands_same : cand_lines rows ≡ cand_lines others

-- The first rows after the seats protect these, and the rest at this line gives candidates.
pub record HasProtections (seats : ℕ) (bytes : List ℕ) (number : ℕ) (counts : List ℕ) (rest : List ℕ) (next : ℕ) : Type 0 where
  pub passed : ArePassed (body_judge seats none_named) (rest_rows bytes) (rest_numbers number bytes) cand_judge (rest_rows rest) (rest_numbers next rest)
  pub counts_given : counts ≡ map count_of (named_from none_named (rest_rows bytes))
  pub cands_left : cand_lines (rest_rows bytes) ≡ rest_rows rest

-- an error of rows: a fault is their first, and nothing is claimed of memory
abbrev pub IsErrorOfRows : Judge (List ℕ) SheetKind → List (List ℕ) → List ℕ → SheetError → Type 0
IsErrorOfRows judge rows numbers (Bad fault) = IsFaultOfRows judge rows numbers fault
IsErrorOfRows judge rows numbers OutOfMemory = Unit {0}

-- The first of the candidate lines are read: they have no fault, and these are their people and the numbers known from them.
pub record AreRead (lines : List (List ℕ)) (people : List Person) (known : ℕ → Bool) : Type 0 where
  pub within : length people ≤ length lines
  pub few : length people ≤ most_candidates
  pub made : people ≡ people_from 1 (take (length people) lines)
  pub told : (id : ℕ) → known id ≡ list_any (λ other. other == id) (ids_of (take (length people) lines))
  pub faultless : (row : ℕ) → row < length people → fault_at cand_judge lines row ≡ None
  pub ranked : AreRanked (record { 0 = 1 }) people
  pub below : AllByRecursion (λ person. IsAhead (number_in (record { 0 = 1 }) person) (Some (length people + 1))) people
