-- How the reading of requests ends, and that it has one answer.
use Rattle.std.proofs.Common.{◌≡◌, ◌<◌, ◌≤◌, ◌⊎◌, ◌∙◌, inl, inr, ℕ, List, Option, Result, Ok, Err, length, refl, sym, ap, arith}
use Rattle.std.specs.Str.{IsUtf8, is_utf8}
use Rattle.std.proofs.lemmas.Bool.{cases_Bool, cases_lt}
use Rattle.std.proofs.lemmas.Str.{IsUtf8-from_is_utf8, is_utf8-from_IsUtf8}
use Rattle.office_base.specs.Limits.{most_bundle_bytes}
use Rattle.office_asks.specs.declared.ask.Request.{Request}
use Rattle.office_text.specs.Lines.{skip_mark}
use Rattle.section_rows.specs.Rows.{rows_of}
use Rattle.request_rows.specs.Requests.{script_of}
use Rattle.season_file.specs.Script.{IsScriptFault}
use Rattle.season_file.specs.Season.{IsText}
use Rattle.season_file.specs.declared.fault.SeasonFault.{SeasonFault}
use Rattle.season_file.specs.declared.fault.SeasonFault.TheVariants.{ReadFault, TooLong, BadFirstLine, Section, BadSeason, Register, Matrix, Choices, NotUtf8, BadRequest, OutOfMemory}
use Rattle.season_texts.specs.Texts.{fault_line}
use Rattle.command_answers.specs.Answers.{HasLeft, HaveOneAnswer, IsFailureOf}
use Rattle.command_answers.specs.declared.failure.Failure.{Failure}
use Rattle.command_answers.specs.declared.failure.Failure.TheVariants.{Read, Bad, NoMemory}
use Rattle.command_answers.proofs.Ended.{all_left, long_left}
use Rattle.season_commands.specs.Check.{TellsSeasonFault}
use Rattle.resume_command.specs.Resume.{AreRequests, HaveRequestFault, IsFaultyScript, IsRequestFaultLine, IsScript, script_answers}

-- the line of a fault of requests
line_left : (before after : Option (List ℕ)) (fault : SeasonFault) (line : List ℕ) → (fault ≡ ReadFault → ⊥) → (fault ≡ OutOfMemory → ⊥) → IsScriptFault before after fault → line ≡ fault_line fault
    → HasLeft IsRequestFaultLine before line
line_left before after ReadFault line read memory is told = absurd (read refl)
line_left before after TooLong line read memory is told = let long = long_left most_bundle_bytes before after is in (long.0, long.1, (TooLong, long.2, told))
line_left before after BadFirstLine line read memory is told = absurd is
line_left before after (Section at) line read memory is told = absurd is
line_left before after (BadSeason row) line read memory is told = absurd is
line_left before after (Register fault) line read memory is told = absurd is
line_left before after (Matrix fault) line read memory is told = absurd is
line_left before after (Choices fault) line read memory is told = absurd is
line_left before after NotUtf8 line read memory is told = let (bytes, took, end, short, not) = is in (bytes, all_left bytes before after took end, (NotUtf8, (short, not), told))
line_left before after (BadRequest row) line read memory is told =
    let (bytes, took, end, text, err) = is in (bytes, all_left bytes before after took end, (BadRequest row, (text, err), told))
line_left before after OutOfMemory line read memory is told = absurd (memory refl)

-- A failure that reports a fault of requests has its cause.
pub requests_failed : (before after : Option (List ℕ)) (failed : Type 0) (fault : SeasonFault) (failure : Failure) → (fault ≡ ReadFault → failed) → IsScriptFault before after fault
    → TellsSeasonFault fault failure → IsFailureOf script_answers before failed failure
requests_failed before after failed fault Read cause is told = cause told
requests_failed before after failed fault (Bad line) cause is told = line_left before after fault line told.0 told.1 is told.2
requests_failed before after failed fault NoMemory cause is told = tt

-- bytes are not both requests and faulty
requests_apart : (bytes : List ℕ) (script : List Request) (fault : SeasonFault) → AreRequests bytes script → HaveRequestFault bytes fault → ⊥
requests_apart bytes script ReadFault are has = has
requests_apart bytes script TooLong are has = omega (arith, has, are.0.short)
requests_apart bytes script BadFirstLine are has = has
requests_apart bytes script (Section at) are has = has
requests_apart bytes script (BadSeason row) are has = has
requests_apart bytes script (Register fault) are has = has
requests_apart bytes script (Matrix fault) are has = has
requests_apart bytes script (Choices fault) are has = has
requests_apart bytes script NotUtf8 are has = has.1 are.0.utf8
requests_apart bytes script (BadRequest row) are has = cc (are.1, has.1)
requests_apart bytes script OutOfMemory are has = has

-- ---- one answer

-- how a fault of requests is known
abbrev pub IsKnown : List ℕ → SeasonFault → Type 0
IsKnown bytes fault = ((most_bundle_bytes < length bytes) × (fault ≡ TooLong))
    ⊎ (((length bytes ≤ most_bundle_bytes) × (IsUtf8 bytes → ⊥) × (fault ≡ NotUtf8))
    ⊎ (IsText bytes × ((row : ℕ) × (script_of (rows_of (skip_mark bytes)) ≡ Err row) × (fault ≡ BadRequest row))))

known : (bytes : List ℕ) (fault : SeasonFault) → HaveRequestFault bytes fault → IsKnown bytes fault
known bytes ReadFault has = absurd has
known bytes TooLong has = inl (has, refl)
known bytes BadFirstLine has = absurd has
known bytes (Section at) has = absurd has
known bytes (BadSeason row) has = absurd has
known bytes (Register fault) has = absurd has
known bytes (Matrix fault) has = absurd has
known bytes (Choices fault) has = absurd has
known bytes NotUtf8 has = inr (inl (has.0, has.1, refl))
known bytes (BadRequest row) has = inr (inr (has.0, (row, has.1, refl)))
known bytes OutOfMemory has = absurd has

same_known : (bytes : List ℕ) (fault other : SeasonFault) → IsKnown bytes fault → IsKnown bytes other → fault ≡ other
same_known bytes fault other (inl a) (inl b) = a.1 ∙ sym b.1
same_known bytes fault other (inl a) (inr (inl b)) = absurd (omega (arith, a.0, b.0))
same_known bytes fault other (inl a) (inr (inr b)) = absurd (omega (arith, a.0, b.0.short))
same_known bytes fault other (inr (inl a)) (inl b) = absurd (omega (arith, b.0, a.0))
same_known bytes fault other (inr (inl a)) (inr (inl b)) = a.2 ∙ sym b.2
same_known bytes fault other (inr (inl a)) (inr (inr b)) = absurd (a.1 b.0.utf8)
same_known bytes fault other (inr (inr a)) (inl b) = absurd (omega (arith, b.0, a.0.short))
same_known bytes fault other (inr (inr a)) (inr (inl b)) = absurd (b.1 a.0.utf8)
same_known bytes fault other (inr (inr a)) (inr (inr b)) = (let one : a.1.0 ≡ b.1.0 = cc (a.1.1, b.1.1) in a.1.2 ∙ ap BadRequest one ∙ sym b.1.2)

some_rows : (bytes : List ℕ) → IsText bytes → (r : Result (List Request) ℕ) → script_of (rows_of (skip_mark bytes)) ≡ r → IsScript bytes ⊎ IsFaultyScript bytes
some_rows bytes text (Ok script) is = inl (script, (text, is))
some_rows bytes text (Err row) is = inr (BadRequest row, (text, is))

some_requests : (bytes : List ℕ) → IsScript bytes ⊎ IsFaultyScript bytes
some_requests bytes = elim (cases_lt most_bundle_bytes (length bytes)) [
  | inl long ↦ inr (TooLong, long)
  | inr short ↦ elim (cases_Bool (is_utf8 bytes)) [
    | inl e ↦ some_rows bytes (record { short = short; utf8 = IsUtf8-from_is_utf8 bytes e }) (script_of (rows_of (skip_mark bytes))) refl
    | inr e ↦ inr (NotUtf8, (short, λ utf8. cc (e, is_utf8-from_IsUtf8 bytes utf8)))
  ]
]

-- Bytes have one answer as requests.
pub one_requests_answer : (bytes : List ℕ) → HaveOneAnswer script_answers bytes
one_requests_answer bytes = record {
  some = some_requests bytes;
  apart = λ input faulty. requests_apart bytes input.0 faulty.0 input.1 faulty.1;
  of_input = λ output made. absurd made;
  of_fault = λ line has. (has.0, has.1);
  one_output = λ output other a b. absurd a;
  one_line = λ line other a b. a.2 ∙ ap fault_line (same_known bytes a.0 b.0 (known bytes a.0 a.1) (known bytes b.0 b.1)) ∙ sym b.2;
}
