-- What is written with a status: a text of it whole, or a prefix.
use Rattle.std.specs.Prelude.{◌≡◌, ◌≢◌, ◌⊎◌, ℕ, List, Option, Result, Ok, Err, codes, take}
use Rattle.office_base.specs.FaultLines.{memory_line, read_line}
use Rattle.office_base.specs.Outside.{Appends, Rose}
use Rattle.office_base.specs.Visible.{Writable}
use Rattle.command_answers.specs.Answers.{Answers, HasLeft}
use Rattle.command_answers.specs.declared.failure.Failure.{Failure}
use Rattle.command_answers.specs.declared.failure.Failure.TheVariants.{Read, Bad, NoMemory}
use Rattle.command_answers.specs.declared.status.Status.{Status}
use Rattle.command_answers.specs.declared.status.Status.TheVariants.{Ok as Done, Usage, BadInput, ReadFault, WriteFault, OutOfMemory}

-- the line of a keeper that failed
abbrev pub keeper_line : List ℕ
keeper_line = codes "fault: keeper\n"

-- the line of words that spell no command
abbrev pub usage_line : List ℕ
usage_line = codes "fault: usage\n"

-- The whole text of the status is written; or the sink failed, and a prefix of the text of some status is.
abbrev pub Writes : (Status → List ℕ → Type 0) → Status → List ℕ → Type 0
Writes IsText status output =
    IsText status output ⊎ ((status ≡ WriteFault) × ((other : Status) × (text : List ℕ) × (n : ℕ) × IsText other text × (output ≡ take n text)))

-- The text is written whole and the status is the one that goes with it;
-- or the sink failed, and a prefix of the text is written.
abbrev pub IsTextOut : Status → List ℕ → Option (List ℕ) → Option (List ℕ) → Type 0 → Status → Type 0
IsTextOut status text before after failed result = ((result ≡ status) × Appends text before after) ⊎ ((result ≡ WriteFault) × failed × ((n : ℕ) × Appends (take n text) before after))

-- A text is written to a sink with its status, and the sink did not fail unless the result says so.
pub record Told (status : Status) (text : List ℕ) (old new : Writable) (result : Status) : Type 0 where
  pub told : IsTextOut status text old.written new.written (Rose old.faults new.faults) result
  pub steady : result ≢ WriteFault → new.faults ≡ old.faults

-- the whole text that goes with each status of a command that answers with one text,
-- for the bytes that its source had left
abbrev pub IsTextOf : Answers → Option (List ℕ) → Status → List ℕ → Type 0
IsTextOf answers left Done text = HasLeft answers.IsOutput left text
IsTextOf answers left BadInput text = HasLeft answers.IsFaultLine left text
IsTextOf answers left ReadFault text = text ≡ read_line
IsTextOf answers left OutOfMemory text = text ≡ memory_line
IsTextOf answers left other text = ⊥

-- the whole text that goes with each status if memory ran out for what a command needs first
abbrev pub IsWantText : Status → List ℕ → Type 0
IsWantText OutOfMemory text = text ≡ memory_line
IsWantText other text = ⊥

-- the whole text that goes with each status if the words spell no command
abbrev pub IsUsageText : Status → List ℕ → Type 0
IsUsageText Usage text = text ≡ usage_line
IsUsageText other text = ⊥

-- the status of a command's answer, and the text that goes with it
abbrev pub status_of : Result (List ℕ) Failure → Status
status_of (Ok output) = Done
status_of (Err Read) = ReadFault
status_of (Err (Bad line)) = BadInput
status_of (Err NoMemory) = OutOfMemory

abbrev pub text_of : Result (List ℕ) Failure → List ℕ
text_of (Ok output) = output
text_of (Err Read) = read_line
text_of (Err (Bad line)) = line
text_of (Err NoMemory) = memory_line

-- A text is appended to what the sink had, and it is the one that goes with the status,
-- or a prefix of a text if the sink failed.
abbrev pub WritesFor : (Status → List ℕ → Type 0) → Writable → Writable → Status → Type 0
WritesFor IsText old new status = (output : List ℕ) × Appends output old.written new.written × Writes IsText status output
