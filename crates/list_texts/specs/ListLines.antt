-- The text of a programme's list by its lines: what completes it at each of them.
use Rattle.std.specs.Prelude.{◌≡◌, ◌<◌, ◌≤◌, ◌-◌, ◌^◌, ℕ, zero, suc, true, List, [], ◌∷◌, ◌++◌, Option, Some, None, length, codes}
use Rattle.std.specs.Fmt.{decimal}
use Rattle.office_base.specs.declared.person.Person.{Person}
use Rattle.office_base.specs.declared.step.Pair.{Pair}
use Rattle.office_base.specs.declared.step.StepKind.{StepKind}
use Rattle.office_base.specs.declared.step.StepKind.TheVariants.{Dereserved}
use Rattle.programme_lists.specs.declared.programme.StepList.{StepList}
use Rattle.published_texts.specs.Texts.{code_in}
use Rattle.seat_matrix.specs.Matrix.{SeatTable}
use Rattle.step_lines.specs.Lines.{slot_letter, step_name}
use Rattle.text_readers.specs.Parts.{is_prefix}
use Rattle.text_readers.specs.Reading.{Grammar}
use Rattle.list_texts.specs.Listing.{Entry, IsEntry, pair_of, step_kinds}
use Rattle.list_texts.specs.declared.list_stage.OpenStep.{OpenStep}

-- A text begins with one of these lines, and what follows it may follow it.
pub record IsLineThen {P V : Type 0} (words : P → List ℕ) (can : P → Type 0) (next : P → Grammar V) (text : List ℕ) (value : V) : Type 0 where
  pub part : P
  pub may : can part
  pub rest : List ℕ
  pub same : text ≡ words part ++ 10 ∷ rest
  pub later : next part rest value

-- A piece begins one of these lines.
pub record BeginsLine {P : Type 0} (words : P → List ℕ) (can : P → Type 0) (piece : List ℕ) : Type 0 where
  pub part : P
  pub may : can part
  pub begins : is_prefix piece (words part ++ 10 ∷ []) ≡ true

-- ---- the lines

-- the first line: the round and the programme
abbrev pub list_words : SeatTable → ℕ × ℕ → List ℕ
list_words table part = codes "list " ++ (decimal part.0 ++ 32 ∷ code_in table part.1)

abbrev pub IsListHead : SeatTable → ℕ × ℕ → Type 0
IsListHead table part = (part.0 < 2 ^ 16) × (part.1 < length table.programmes)

-- the line of a step: its seats, its candidates and how many are admitted
abbrev pub step_words : StepKind → ℕ × ℕ × ℕ → List ℕ
step_words kind part = codes "step " ++ (step_name kind ++ (codes " seats " ++ (decimal part.0 ++ 32 ∷ (codes "candidates " ++ (decimal part.1 ++ 32 ∷ (codes "admitted " ++ decimal part.2))))))

-- no more are admitted than this number
abbrev pub IsStepHead : ℕ → ℕ × ℕ × ℕ → Type 0
IsStepHead most part = (part.0 < 2 ^ 32) × (part.1 < 2 ^ 32) × (part.2 ≤ most)

-- the line of how many rows have a slot
abbrev pub honoured_words : ℕ → List ℕ
honoured_words slots = codes "honoured " ++ decimal slots

-- how many of so many rows may have one: none in the step of the seats that categories left
abbrev pub most_slots : StepKind → ℕ → ℕ
most_slots Dereserved rows = 0
most_slots kind rows = rows

-- a row
abbrev pub entry_words : Entry → List ℕ
entry_words entry = decimal entry.0.id.0 ++ 32 ∷ slot_letter entry.1 ∷ []

-- 1 where there is a slot
abbrev pub slots_in : Option ℕ → ℕ
slots_in None = 0
slots_in (Some t) = 1

-- A row that is possible when that many rows are left after it, and with it that many slots.
pub record CanStand (people used : List Person) (left slots : ℕ) (entry : Entry) : Type 0 where
  pub is : IsEntry people used entry
  pub some : slots_in entry.1 ≤ slots
  pub enough : slots - slots_in entry.1 ≤ left

-- the last line
abbrev pub last_words : Unit {0} → List ℕ
last_words _ = codes "end list"

-- ---- what follows them

-- what a list says: the round, the programme's number, and the steps
abbrev pub Said : Type 0
Said = ℕ × ℕ × List StepList

-- what is left of a text after its last line
pub record IsListEnd (said : Said) (text : List ℕ) (read : Said) : Type 0 where
  pub all : read ≡ said
  pub empty : text ≡ []

-- the list of a step
abbrev pub step_list : StepKind → ℕ → ℕ → List Person → List Pair → StepList
step_list kind seats candidates admitted pairs = record { kind = kind; seats = seats; candidates = candidates; admitted = admitted; cert = record { pairs = pairs } }

-- so many rows, of which so many have a slot, after rows with these persons and pairs
abbrev pub rows_text : List Person → (List Person → List Pair → Grammar Said) → ℕ → ℕ → List Person → List Pair → Grammar Said
rows_text people after zero slots admitted pairs = after admitted pairs
rows_text people after (suc left) slots admitted pairs =
    IsLineThen entry_words (CanStand people admitted left slots) (λ entry. rows_text people after left (slots - slots_in entry.1) (admitted ++ entry.0 ∷ []) (pairs ++ pair_of entry.0 entry.1))

-- the number of slots, and so many rows
abbrev pub honoured_text : List Person → (List Person → List Pair → Grammar Said) → StepKind → ℕ → Grammar Said
honoured_text people after kind rows = IsLineThen honoured_words (λ slots. slots ≤ most_slots kind rows) (λ slots. rows_text people after rows slots [] [])

-- a step
abbrev pub step_text : List Person → StepKind → (StepList → Grammar Said) → Grammar Said
step_text people kind after =
    IsLineThen (step_words kind) (IsStepHead (length people)) (λ part. honoured_text people (λ admitted pairs. after (step_list kind part.0 part.1 admitted pairs)) kind part.2)

-- what is said with the list of one more step
abbrev pub with_step : Said → StepList → Said
with_step said list = (said.0, said.1, said.2 ++ list ∷ [])

-- these steps after what was said, and the last line
abbrev pub steps_text : List Person → List StepKind → Said → Grammar Said
steps_text people [] said = IsLineThen last_words (λ _. Unit {0}) (λ _. IsListEnd said)
steps_text people (kind ∷ kinds) said = step_text people kind (λ list. steps_text people kinds (with_step said list))

-- a whole text
abbrev pub lines_text : SeatTable → List Person → Grammar Said
lines_text table people = IsLineThen (list_words table) (IsListHead table) (λ part. steps_text people step_kinds (part.0, part.1, []))

-- what follows the rows of a step: the steps after it, with its list among what was said
abbrev pub after_rows : List Person → List StepKind → Said → OpenStep → List Person → List Pair → Grammar Said
after_rows people kinds said step admitted pairs = steps_text people kinds (with_step said (step_list step.kind step.seats step.candidates admitted pairs))
