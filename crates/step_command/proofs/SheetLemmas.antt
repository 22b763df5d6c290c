-- The first two rows of a sheet, and the sheet as a whole.
use Rattle.std.proofs.Common.{◌≡◌, ◌≤◌, ◌⊎◌, inl, inr, ℕ, List, ◌∷◌, length, map, get_or, Some, None, refl, sym, ap, ◌∙◌, arith}
use Rattle.std.specs.List.{slice_get}
use Rattle.std.proofs.lemmas.Bool.{cases_lt}
use Rattle.std.proofs.lemmas.Option.{slice_get-get_or}
use Rattle.office_base.specs.declared.step.Step.{Step}
use Rattle.office_text.specs.Lines.{lines_of, skip_mark, text_lines, trimmed}
use Rattle.office_text.proofs.FirstFaultLemmas.{one_answer}
use Rattle.office_base.specs.Limits.{most_sheet_bytes}
use Rattle.step_command.specs.declared.fault.SheetFault.{SheetFault}
use Rattle.step_command.specs.declared.fault.SheetKind.{SheetKind}
use Rattle.step_command.specs.declared.fault.SheetKind.TheVariants.{TooLong}
use Rattle.step_command.specs.declared.fault.SheetError.{SheetError}
use Rattle.step_command.specs.declared.fault.SheetError.TheVariants.{Bad, OutOfMemory}
use Rattle.step_command.specs.Reading.{HasHead, HasSeats, ArePassed, IsErrorOfRows, rest_rows, rest_numbers}
use Rattle.step_command.specs.Sheet.{IsErrorOf, SheetGives, HasFault, HaveOneReading, body_judge, first_fault, none_named, numbers_of, row_numbers, rows_of, sheet_judge, step_of, texts_of}
use Rattle.step_command.proofs.RowLemmas.{error_passed, numbers_of-length, passed_head}

-- The head of a sheet is passed.
passed : (bytes rest : List ℕ) (seats next : ℕ) → HasHead bytes seats next rest → ArePassed sheet_judge (texts_of (map trimmed (lines_of bytes))) (numbers_of (map trimmed (lines_of bytes))) (body_judge seats none_named) (rest_rows rest) (rest_numbers next rest)
passed bytes rest seats next head =
    rw (head.rows, head.numbers) (passed_head head.first head.second (rest_rows rest) 1 head.number (rest_numbers next rest) seats head.sheet head.given)

-- The first line and the seats after it are the head of a sheet.
pub head_from : (bytes rest line : List ℕ) (seats next : ℕ) (after : List ℕ) → lines_of bytes ≡ line ∷ lines_of rest → first_fault (trimmed line) ≡ None → HasSeats rest 2 seats next after → HasHead bytes seats next after
head_from bytes rest line seats next after e sheet h = record {
  first = trimmed line;
  second = h.row;
  number = h.at;
  rows = ap (λ (lines : List (List ℕ)). texts_of (map trimmed lines)) e ∙ ap (λ (rows : List (List ℕ)). trimmed line ∷ rows) h.rows;
  numbers = ap (λ (lines : List (List ℕ)). numbers_of (map trimmed lines)) e ∙ ap (λ (numbers : List ℕ). 1 ∷ numbers) h.numbers;
  sheet = sheet;
  given = h.given;
}

-- An error of the rows after the head is one of the sheet.
pub error_after : (bytes rest : List ℕ) (seats next : ℕ) (e : SheetError) → length bytes ≤ most_sheet_bytes → HasHead (skip_mark bytes) seats next rest → IsErrorOfRows (body_judge seats none_named) (rest_rows rest) (rest_numbers next rest) e → IsErrorOf bytes e
error_after bytes rest seats next (Bad fault) short head f = inr (short, error_passed sheet_judge (body_judge seats none_named) (rows_of bytes) (rest_rows rest) (row_numbers bytes) (rest_numbers next rest) (Bad fault) (passed (skip_mark bytes) rest seats next head) f)
error_after bytes rest seats next OutOfMemory short head f = tt

-- Bytes give a step or have a fault.
some_reading : (bytes : List ℕ) → ((step : Step) × SheetGives bytes step) ⊎ ((fault : SheetFault) × HasFault bytes fault)
some_reading bytes =
    elim (cases_lt most_sheet_bytes (length bytes)) [
      | inl long ↦ inr (record { line = 0; kind = TooLong }, inl (long, refl))
      | inr short ↦ elim (one_answer sheet_judge (rows_of bytes)).some [
        | inl none ↦ inl (step_of (rows_of bytes), record { short = short; faultless = none; given = refl })
        | inr found ↦ inr (
          record { line = get_or (row_numbers bytes) found.0 0; kind = found.1 },
          inr (
            short,
            record {
              row = found.0;
              line = slice_get-get_or (row_numbers bytes) found.0 0 (omega (arith, found.2.within, numbers_of-length (map trimmed (text_lines bytes))));
              first = found.2;
            },
          ),
        )
      ]
    ]

-- Two faults with one line and one kind are one.
same_parts : (l m : ℕ) (j k : SheetKind) → l ≡ m → j ≡ k → ◌≡◌ {A = SheetFault} (record { line = l; kind = j }) (record { line = m; kind = k })
same_parts l m j k a b = cc

same_fault : (fault other : SheetFault) → fault.line ≡ other.line → fault.kind ≡ other.kind → fault ≡ other
same_fault fault other a b = same_parts fault.line other.line fault.kind other.kind a b

-- One row has one number.
same_line : (numbers : List ℕ) (m n l k : ℕ) → m ≡ n → slice_get numbers m ≡ Some l → slice_get numbers n ≡ Some k → l ≡ k
same_line numbers m n l k e a b = cc

-- Bytes with a step have no fault.
apart : (bytes : List ℕ) (step : Step) (fault : SheetFault) → SheetGives bytes step → HasFault bytes fault → ⊥
apart bytes step fault gives (inl long) = omega (arith, gives.short, long.0)
apart bytes step fault gives (inr found) = (one_answer sheet_judge (rows_of bytes)).apart found.1.row fault.kind gives.faultless found.1.first

-- Bytes have one fault at most.
one_fault : (bytes : List ℕ) (fault other : SheetFault) → HasFault bytes fault → HasFault bytes other → fault ≡ other
one_fault bytes fault other (inl a) (inl b) = a.1 ∙ sym b.1
one_fault bytes fault other (inl a) (inr b) = absurd (omega (arith, a.0, b.0))
one_fault bytes fault other (inr a) (inl b) = absurd (omega (arith, a.0, b.0))
one_fault bytes fault other (inr a) (inr b) =
    let same = (one_answer sheet_judge (rows_of bytes)).one a.1.row b.1.row fault.kind other.kind a.1.first b.1.first in
    same_fault fault other (same_line (row_numbers bytes) a.1.row b.1.row fault.line other.line same.0 a.1.line b.1.line) same.1

-- Bytes have exactly one reading.
pub one_reading : (bytes : List ℕ) → HaveOneReading bytes
one_reading bytes = record {
  some = some_reading bytes;
  apart = apart bytes;
  one_step = λ step other a b. a.given ∙ sym b.given;
  one_fault = one_fault bytes;
}
