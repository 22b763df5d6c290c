-- What a command answers with one text to the bytes that its source had left.
use Rattle.std.specs.Prelude.{◌≡◌, ◌≤◌, ◌⊎◌, ℕ, List, Option, Some, None, Result, IfOk, IfErr, OnOk, IsErrOf}
use Rattle.office_base.specs.Outside.{AreLeft, IsAtEnd, Rose}
use Rattle.office_base.specs.Visible.{Readable}
use Rattle.command_answers.specs.declared.failure.Failure.{Failure}
use Rattle.command_answers.specs.declared.failure.Failure.TheVariants.{Read, Bad, NoMemory}

-- What a command answers to bytes.
pub record Answers : Type 1 where
  -- the bytes are the command's input without faults
  pub IsInput : List ℕ → Type 0
  -- the bytes have a fault as the command's input
  pub IsFaulty : List ℕ → Type 0
  -- the output for these bytes, which are an input without faults
  pub IsOutput : List ℕ → List ℕ → Type 0
  -- the line of the first fault of these bytes
  pub IsFaultLine : List ℕ → List ℕ → Type 0

-- Bytes are a command's input without faults or have a fault, and never both.
-- They have at most one output and at most one line of a fault, an output only if they are without faults, and such a
-- line only if they have one.
pub record HaveOneAnswer (answers : Answers) (bytes : List ℕ) : Type 0 where
  pub some : answers.IsInput bytes ⊎ answers.IsFaulty bytes
  pub apart : answers.IsInput bytes → answers.IsFaulty bytes → ⊥
  pub of_input : (output : List ℕ) → answers.IsOutput bytes output → answers.IsInput bytes
  pub of_fault : (line : List ℕ) → answers.IsFaultLine bytes line → answers.IsFaulty bytes
  pub one_output : (output other : List ℕ) → answers.IsOutput bytes output → answers.IsOutput bytes other → output ≡ other
  pub one_line : (line other : List ℕ) → answers.IsFaultLine bytes line → answers.IsFaultLine bytes other → line ≡ other

-- some bytes that were left have this text in this way
abbrev pub HasLeft : (List ℕ → List ℕ → Type 0) → Option (List ℕ) → List ℕ → Type 0
HasLeft Has left text = (bytes : List ℕ) × AreLeft bytes left × Has bytes text

-- the bytes of the source are visible, and they are such bytes
abbrev pub Tells : (List ℕ → Type 0) → Option (List ℕ) → Type 0
Tells Are None = ⊥
Tells Are (Some bytes) = Are bytes

-- A failure has its cause: the source failed, or the bytes that it had left have the reported fault.
-- Nothing is claimed of memory.
abbrev pub IsFailureOf : Answers → Option (List ℕ) → Type 0 → Failure → Type 0
IsFailureOf answers left failed Read = failed
IsFailureOf answers left failed (Bad line) = HasLeft answers.IsFaultLine left line
IsFailureOf answers left failed NoMemory = Unit {0}

-- A failure to read bytes that are in memory: they have the reported fault.
abbrev pub IsInputFailure : Answers → List ℕ → Failure → Type 0
IsInputFailure answers bytes Read = ⊥
IsInputFailure answers bytes (Bad line) = answers.IsFaultLine bytes line
IsInputFailure answers bytes NoMemory = Unit {0}

-- The failure reports this line. Nothing is claimed of memory.
abbrev pub TellsLine : List ℕ → Failure → Type 0
TellsLine line Read = ⊥
TellsLine line (Bad told) = told ≡ line
TellsLine line NoMemory = Unit {0}

-- A value that the bytes left call for, and then the source is at its end; or a failure that has its cause.
-- The source failed only if the failure reports it.
pub record Reads {X : Type 0} (answers : Answers) (IsOf : Option (List ℕ) → X → Type 0) (old new : Readable) (result : Result X Failure) : Type 0 where
  pub output : IfOk result (IsOf old.left)
  pub ended : OnOk result (IsAtEnd new.left)
  pub failure : IfErr result (IsFailureOf answers old.left (Rose old.faults new.faults))
  pub count : old.faults ≤ new.faults
  pub steady : ¬ IsErrOf result Read → new.faults ≡ old.faults

-- the output for the bytes left, or why there is none
abbrev pub Answer : Answers → Readable → Readable → Result (List ℕ) Failure → Type 0
Answer answers old new result = Reads answers (HasLeft answers.IsOutput) old new result
