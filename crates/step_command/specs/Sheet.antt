-- The step sheet: `step sheet 1`, then the seats, then those protected, then a line for each candidate, the best first.
use Rattle.std.specs.Prelude.{◌≡◌, ◌≤◌, ◌<◌, ◌+◌, ◌⊎◌, ℕ, suc, Bool, false, ◌==◌, nat_le, List, [], ◌∷◌, ◌++◌, length, map, sum, set, slice_get, slice_index_or, Option, Some, None, is_some, if◌then◌else◌, codes, replicate}
use Rattle.std.specs.List.{list_any, flat_map}
use Rattle.std.specs.Option.{option_map, option_and_then, option_map_or, unwrap_or}
use Rattle.std.specs.Str.{bytes_eq}
use Rattle.office_base.specs.Limits.{last_id, most_candidates, most_sheet_bytes, most_step_seats}
use Rattle.office_base.specs.declared.person.Category.TheVariants.{Gen}
use Rattle.office_base.specs.declared.person.Person.{Person}
use Rattle.office_base.specs.declared.person.Place.TheVariants.{Absent, Common}
use Rattle.office_base.specs.declared.step.Step.{Step}
use Rattle.office_text.specs.FirstFault.{Judge, IsFirstFault, IsFaultless}
use Rattle.office_text.specs.Lines.{fields_of, text_lines, trimmed}
use Rattle.office_text.specs.Number.{number_within}
use Rattle.office_text.specs.Traits.{trait_of, traits_of}
use Rattle.step_command.specs.declared.fault.SheetError.{SheetError}
use Rattle.step_command.specs.declared.fault.SheetError.TheVariants.{Bad, OutOfMemory}
use Rattle.step_command.specs.declared.fault.SheetFault.{SheetFault}
use Rattle.step_command.specs.declared.fault.SheetKind.{SheetKind}
use Rattle.step_command.specs.declared.fault.SheetKind.TheVariants.{BadFirstLine, BadLine, ProtectionsExceedSeats, RepeatedCandidate, RepeatedProtect, TooLong, TooMany}

-- the lines that are not empty
abbrev pub filled : List (List ℕ) → List (List ℕ)
filled [] = []
filled ([] ∷ lines) = filled lines
filled ((byte ∷ line) ∷ lines) = (byte ∷ line) ∷ filled lines

-- the numbers of the lines that are not empty, and that of the line after the last, where the first line has this number
abbrev pub numbers_from : ℕ → List (List ℕ) → List ℕ
numbers_from n [] = n ∷ []
numbers_from n ([] ∷ lines) = numbers_from (n + 1) lines
numbers_from n ((byte ∷ line) ∷ lines) = n ∷ numbers_from (n + 1) lines

-- the rows of a sheet: its first line, and the others that are not empty
abbrev pub texts_of : List (List ℕ) → List (List ℕ)
texts_of [] = []
texts_of (first ∷ lines) = first ∷ filled lines

-- the numbers of the rows, counted from 1 with the empty lines, and that of the line after the last
abbrev pub numbers_of : List (List ℕ) → List ℕ
numbers_of [] = 1 ∷ []
numbers_of (first ∷ lines) = 1 ∷ numbers_from 2 lines

-- the rows of bytes: lines without the commas at their ends
abbrev pub rows_of : List ℕ → List (List ℕ)
rows_of bytes = texts_of (map trimmed (text_lines bytes))

-- the numbers of these rows and of the end
abbrev pub row_numbers : List ℕ → List ℕ
row_numbers bytes = numbers_of (map trimmed (text_lines bytes))

-- the first field of a line is this word
abbrev pub begins_with : List ℕ → List (List ℕ) → Bool
begins_with word [] = false
begins_with word (field ∷ fields) = bytes_eq field word

-- the number of seats in the fields `seats` and Q
abbrev pub seats_in : List (List ℕ) → Option ℕ
seats_in [] = None
seats_in (word ∷ []) = None
seats_in (word ∷ number ∷ []) = if bytes_eq word (codes "seats") then number_within 0 most_step_seats number else None
seats_in (word ∷ number ∷ more ∷ fields) = None

-- the number of seats that a line gives
abbrev pub seats_of : List ℕ → Option ℕ
seats_of line = seats_in (fields_of line)

-- both of two numbers
abbrev pub both : Option ℕ → Option ℕ → Option (ℕ × ℕ)
both first second = option_and_then (λ m. option_map (λ n. (m, n)) second) first

-- a line whose first field is `protect`
abbrev pub is_protect : List ℕ → Bool
is_protect line = begins_with (codes "protect") (fields_of line)

-- the trait that one letter names
abbrev pub trait_in : List ℕ → Option ℕ
trait_in [] = None
trait_in (letter ∷ []) = trait_of letter
trait_in (letter ∷ next ∷ bytes) = None

-- the trait and the number of seats in the fields `protect`, T and N
abbrev pub protect_in : List (List ℕ) → Option (ℕ × ℕ)
protect_in [] = None
protect_in (word ∷ []) = None
protect_in (word ∷ letter ∷ []) = None
protect_in (word ∷ letter ∷ number ∷ []) = both (trait_in letter) (number_within 0 most_step_seats number)
protect_in (word ∷ letter ∷ number ∷ more ∷ fields) = None

-- the trait for which a line protects seats, and how many
abbrev pub protect_of : List ℕ → Option (ℕ × ℕ)
protect_of line = protect_in (fields_of line)

-- how many seats are protected where no line names the trait, or a line with this number of them does
abbrev pub count_of : Option ℕ → ℕ
count_of named = unwrap_or named 0

-- how many seats are protected for all traits
abbrev pub total : List (Option ℕ) → ℕ
total named = sum (map count_of named)

-- what the lines named for each trait, before there is one
abbrev pub none_named : List (Option ℕ)
none_named = replicate 6 None

-- what they named with one more line, where that gives a trait and seats
abbrev pub named_with : List (Option ℕ) → Option (ℕ × ℕ) → List (Option ℕ)
named_with named None = named
named_with named (Some pair) = set named pair.0 (Some pair.1)

-- what is wrong with the trait and the seats of a line, among this many seats and after lines that named these
abbrev pub protect_fault : ℕ → List (Option ℕ) → Option (ℕ × ℕ) → Option SheetKind
protect_fault seats named None = Some BadLine
protect_fault seats named (Some pair) = if is_some (slice_index_or named pair.0 None) then Some RepeatedProtect else if nat_le (total named + pair.1) seats then None else Some ProtectionsExceedSeats

-- the set of traits in the fields after a candidate's number
abbrev pub traits_in : List (List ℕ) → Option ℕ
traits_in [] = Some 0
traits_in (traits ∷ []) = traits_of traits
traits_in (traits ∷ more ∷ fields) = None

-- the candidate in the fields `cand`, ID and TRAITS, or `cand` and ID for one without traits
abbrev pub cand_in : List (List ℕ) → Option (ℕ × ℕ)
cand_in [] = None
cand_in (word ∷ []) = None
cand_in (word ∷ number ∷ fields) = if bytes_eq word (codes "cand") then both (number_within 1 last_id number) (traits_in fields) else None

-- the number and the traits of the candidate that a line gives
abbrev pub cand_of : List ℕ → Option (ℕ × ℕ)
cand_of line = cand_in (fields_of line)

-- the number of a candidate, where there is one
abbrev pub id_of : Option (ℕ × ℕ) → List ℕ
id_of None = []
id_of (Some cand) = cand.0 ∷ []

-- the numbers of the candidates that lines give
abbrev pub ids_of : List (List ℕ) → List ℕ
ids_of lines = flat_map (λ line. id_of (cand_of line)) lines

-- what is wrong with the candidate of a line, after this many candidates of whom these numbers are known
abbrev pub cand_fault : ℕ → (ℕ → Bool) → Option (ℕ × ℕ) → Option SheetKind
cand_fault before known None = Some BadLine
cand_fault before known (Some cand) = if known cand.0 then Some RepeatedCandidate else if nat_le most_candidates before then Some TooMany else None

-- what is wrong with a row after these candidate lines
abbrev pub cand_judge : List (List ℕ) → Option (List ℕ) → Option SheetKind
cand_judge before None = None
cand_judge before (Some line) = cand_fault (length before) (λ id. list_any (λ other. other == id) (ids_of before)) (cand_of line)

-- what is wrong with a row after the seats, lines that named these, and then the rows before it: at first they
-- protect seats, and from the first that does not they give candidates
abbrev pub body_judge : ℕ → List (Option ℕ) → List (List ℕ) → Option (List ℕ) → Option SheetKind
body_judge seats named [] None = None
body_judge seats named [] (Some line) = if is_protect line then protect_fault seats named (protect_of line) else cand_judge [] (Some line)
body_judge seats named (line ∷ before) row = if is_protect line then body_judge seats (named_with named (protect_of line)) before row else cand_judge (line ∷ before) row

-- what is wrong with the first row
abbrev pub first_fault : List ℕ → Option SheetKind
first_fault line = if bytes_eq line (codes "step sheet 1") then None else Some BadFirstLine

-- what is wrong with the second row
abbrev pub seats_fault : List ℕ → Option SheetKind
seats_fault line = option_map_or (λ seats. None) (seats_of line) (Some BadLine)

-- the seats that the second row gives
abbrev pub seats_from : List ℕ → ℕ
seats_from line = option_map_or (λ seats. seats) (seats_of line) 0

-- what is wrong with a row of the sheet after the rows before it, or with the end of the sheet
abbrev pub sheet_judge : List (List ℕ) → Option (List ℕ) → Option SheetKind
sheet_judge [] None = Some BadFirstLine
sheet_judge [] (Some line) = first_fault line
sheet_judge (first ∷ []) None = Some BadLine
sheet_judge (first ∷ []) (Some line) = seats_fault line
sheet_judge (first ∷ second ∷ before) row = body_judge (seats_from second) none_named before row

-- what the rows after the seats name for each trait, after lines that named these
abbrev pub named_from : List (Option ℕ) → List (List ℕ) → List (Option ℕ)
named_from named [] = named
named_from named (line ∷ lines) = if is_protect line then named_from (named_with named (protect_of line)) lines else named

-- the rows from the first that protects no seats
abbrev pub cand_lines : List (List ℕ) → List (List ℕ)
cand_lines [] = []
cand_lines (line ∷ lines) = if is_protect line then cand_lines lines else line ∷ lines

-- the person of a candidate line, at a place of list 1
abbrev pub person_of : ℕ → ℕ × ℕ → Person
person_of place cand = record { id = record { 0 = cand.0 }; category = Gen; traits = record { 0 = cand.1 }; places = Common place ∷ Absent ∷ Absent ∷ Absent ∷ [] }

-- the person of a line, where it gives a candidate
abbrev pub persons_at : ℕ → Option (ℕ × ℕ) → List Person
persons_at place None = []
persons_at place (Some cand) = person_of place cand ∷ []

-- the people of candidate lines, whose places go up by one from this one
abbrev pub people_from : ℕ → List (List ℕ) → List Person
people_from place [] = []
people_from place (line ∷ lines) = persons_at place (cand_of line) ++ people_from (suc place) lines

-- the step of this many seats that the rows after them give: list 1, the protections, and the people in their order
abbrev pub body_step : ℕ → List (List ℕ) → Step
body_step seats lines = record { list = record { 0 = 1 }; seats = seats; protections = record { counts = map count_of (named_from none_named lines) }; people = people_from 1 (cand_lines lines) }

-- the step that the rows of a sheet give
abbrev pub step_of : List (List ℕ) → Step
step_of [] = body_step 0 []
step_of (first ∷ []) = body_step 0 []
step_of (first ∷ second ∷ lines) = body_step (seats_from second) lines

-- The bytes are a sheet without faults, and this is its step.
pub record SheetGives (bytes : List ℕ) (step : Step) : Type 0 where
  pub short : length bytes ≤ most_sheet_bytes
  pub faultless : IsFaultless sheet_judge (rows_of bytes)
  pub given : step ≡ step_of (rows_of bytes)

-- This is the first fault of rows with these numbers, the last of which is that of their end, and names its line.
pub record IsFaultOfRows (judge : Judge (List ℕ) SheetKind) (rows : List (List ℕ)) (numbers : List ℕ) (fault : SheetFault) : Type 0 where
  pub row : ℕ
  pub line : slice_get numbers row ≡ Some fault.line
  pub first : IsFirstFault judge rows row fault.kind

-- Too many bytes are the one fault, at line 0. Otherwise it is the first one of the rows.
abbrev pub HasFault : List ℕ → SheetFault → Type 0
HasFault bytes fault = ((most_sheet_bytes < length bytes) × (fault ≡ record { line = 0; kind = TooLong })) ⊎ ((length bytes ≤ most_sheet_bytes) × IsFaultOfRows sheet_judge (rows_of bytes) (row_numbers bytes) fault)

-- An error that is a fault is the one of the bytes. Nothing is claimed of memory.
abbrev pub IsErrorOf : List ℕ → SheetError → Type 0
IsErrorOf bytes (Bad fault) = HasFault bytes fault
IsErrorOf bytes OutOfMemory = Unit {0}

-- Bytes give a step or have a fault; never both, and never two steps or two faults.
pub record HaveOneReading (bytes : List ℕ) : Type 0 where
  pub some : ((step : Step) × SheetGives bytes step) ⊎ ((fault : SheetFault) × HasFault bytes fault)
  pub apart : (step : Step) (fault : SheetFault) → SheetGives bytes step → HasFault bytes fault → ⊥
  pub one_step : (step other : Step) → SheetGives bytes step → SheetGives bytes other → step ≡ other
  pub one_fault : (fault other : SheetFault) → HasFault bytes fault → HasFault bytes other → fault ≡ other
