-- What the rows of the five tables stand for, where they stand for records.
use Rattle.std.specs.Prelude.{◌+◌, ◌^◌, ◌==◌, nat_lt, if◌then◌else◌, false, Bool, ℕ, pos, List, [], ◌∷◌, Option, Some, None, option_map, option_and_then}
use Rattle.std.specs.List.{concat}
use Rattle.sqlite.specs.declared.types.Value.{Value}
use Rattle.sqlite.specs.declared.types.Value.TheVariants.{Int, Blob}
use Rattle.sqlite.specs.Order.{Row, column}
use Rattle.sqlite.specs.Tree.{Trees}
use Rattle.office_base.specs.CategorySteps.{step_of_number}
use Rattle.office_base.specs.SeatKinds.{seat_kind_of_number}
use Rattle.office_base.specs.declared.choice.Choice.{Choice}
use Rattle.office_base.specs.declared.seat.SeatKind.{SeatKind}
use Rattle.office_base.specs.declared.step.StepKind.{StepKind}
use Rattle.kept_rows.specs.declared.rows.AnswerRow.{AnswerRow}
use Rattle.kept_rows.specs.declared.rows.AllotRow.{AllotRow}
use Rattle.kept_rows.specs.declared.rows.RaiseRow.{RaiseRow}
use Rattle.stored_tables.specs.Numbers.{choice_of}
use Rattle.stored_tables.specs.Rising.{are_rising}

-- ---- what a value represents

-- a whole number of at most so many bits
abbrev pub number_in : ℕ → Value → Option ℕ
number_in bits (Int (pos n)) = if nat_lt n (2 ^ bits) then Some n else None
number_in bits _ = None

-- the number of a choice
abbrev pub choice_in : Value → Option Choice
choice_in value = option_and_then choice_of (number_in 32 value)

-- the number of a step
abbrev pub step_in : Value → Option StepKind
step_in value = option_and_then step_of_number (number_in 32 value)

-- the number of a kind of seat
abbrev pub seat_kind_in : Value → Option SeatKind
seat_kind_in value = option_and_then seat_kind_of_number (number_in 32 value)

abbrev pub bytes_in : Value → Option (List ℕ)
bytes_in (Blob bytes) = Some bytes
bytes_in _ = None

-- the whole number after this one, or 0 where the value is no whole number from 0
abbrev pub after_of : Value → ℕ
after_of (Int (pos n)) = n + 1
after_of _ = 0

-- this value is the number 1
abbrev pub is_one : Value → Bool
is_one (Int (pos n)) = n == 1
is_one _ = false

-- ---- what a row represents. The first value is the number of the row. The second is empty if the table has a column for it.

-- seq, win, cand, turn, choice
abbrev pub answer_of : Row → Option AnswerRow
answer_of row =
    option_and_then (λ w. option_and_then (λ c. option_and_then (λ t. option_map (λ h. record { window = w; cand = record { 0 = c }; turn = t; choice = h })
    (choice_in (column row 5))) (number_in 16 (column row 4))) (number_in 32 (column row 3))) (number_in 16 (column row 2))

-- seq, win, prog, step, seats
abbrev pub raise_of : Row → Option RaiseRow
raise_of row =
    option_and_then (λ w. option_and_then (λ p. option_and_then (λ s. option_map (λ n. record { window = w; prog = record { 0 = p }; step = s; seats = n })
    (number_in 16 (column row 5))) (step_in (column row 4))) (number_in 16 (column row 3))) (number_in 16 (column row 2))

-- rnd, cand, prog, step
abbrev pub allot_of : Row → Option AllotRow
allot_of row =
    option_and_then (λ r. option_and_then (λ c. option_and_then (λ p. option_map (λ s. record { round = r; cand = record { 0 = c }; prog = record { 0 = p }; step = s })
    (seat_kind_in (column row 4))) (number_in 16 (column row 3))) (number_in 32 (column row 2))) (number_in 16 (column row 1))

-- part, bytes
abbrev pub part_of : Row → Option (List ℕ)
part_of row = bytes_in (column row 2)

-- ---- what the rows of a table stand for

abbrev pub first_of : {A : Type 0} → Option A → Option (List A) → Option (List A)
first_of None rest = None
first_of (Some a) None = None
first_of (Some a) (Some rest) = Some (a ∷ rest)

-- the record of a row that is numbered from this number on
abbrev pub row_from : {R : Type 0} → (Row → Option R) → ℕ → Row → Option R
row_from of least row = if nat_lt least (after_of (column row 0)) then of row else None

-- the records of rows whose numbers rise from this number on, where each row is one
abbrev pub rows_from : {R : Type 0} → (Row → Option R) → ℕ → List Row → Option (List R)
rows_from of least [] = Some []
rows_from of least (row ∷ rows) = first_of (row_from of least row) (rows_from of (after_of (column row 0)) rows)

-- the same rows, where they rise by round and candidate
abbrev pub rising_alone : List AllotRow → Option (List AllotRow)
rising_alone rows = if are_rising rows then Some rows else None

-- ---- what a database represents, if its tables are in these trees

abbrev pub text_in : Trees → Option (List ℕ)
text_in db = option_map concat (rows_from part_of 0 (db 0))

abbrev pub answers_in : Trees → Option (List AnswerRow)
answers_in db = rows_from answer_of 1 (db 1)

abbrev pub allots_in : Trees → Option (List AllotRow)
allots_in db = option_and_then rising_alone (rows_from allot_of 1 (db 3))

abbrev pub raises_in : Trees → Option (List RaiseRow)
raises_in db = rows_from raise_of 1 (db 6)

-- No row says that there is no season, and one row with the number 1 how many cuts were made.
abbrev pub cuts_of : List Row → Option (Option ℕ)
cuts_of [] = Some None
cuts_of (row ∷ []) = if is_one (column row 0) then option_map Some (number_in 16 (column row 2)) else None
cuts_of _ = None
