-- The command `special`: an office resumes from what the keeper holds.
-- The input is lists of those without an admission, and the output is the special round over them.
-- Nothing is put into the keeper.
use Rattle.std.specs.Prelude.{◌≡◌, ◌≢◌, ◌<◌, ◌≤◌, ◌⊎◌, ℕ, List, Option, codes, length}
use Rattle.office_base.specs.Limits.{most_bundle_bytes}
use Rattle.office_base.specs.Visible.{Readable}
use Rattle.kept_rows.specs.Tables.{Tables, AreTold, still}
use Rattle.office_moves.specs.Facts.{SeasonFacts}
use Rattle.office_moves.specs.State.{State}
use Rattle.replays.specs.Resume.{IsResumed}
use Rattle.special_round.specs.Season.{IsSpecialFault, MayBeHeld}
use Rattle.special_round.specs.Special.{IsSpecial}
use Rattle.special_round.specs.declared.fault.SpecialFault.{SpecialFault}
use Rattle.special_round.specs.declared.fault.SpecialFault.TheVariants.{OutOfMemory as NoMemoryForRound}
use Rattle.special_round.specs.declared.round_over.Special.{Special}
use Rattle.special_command.specs.Texts.{IsTextOf as IsPapersOf, special_fault_line}
use Rattle.special_command.specs.declared.lists.SpecialPapers.{SpecialPapers}
use Rattle.command_answers.specs.Answers.{Answers}
use Rattle.command_answers.specs.Writes.{IsTextOf, Writes}
use Rattle.command_answers.specs.declared.failure.Failure.{Failure}
use Rattle.command_answers.specs.declared.failure.Failure.TheVariants.{Read, Bad, NoMemory}
use Rattle.command_answers.specs.declared.status.Status.{Status}
use Rattle.season_commands.specs.Outside.{Outside, held}
use Rattle.resume_command.specs.Resume.{AnswersAfter, EndsUnresumed}

abbrev pub too_long_line : List ℕ
too_long_line = codes "fault: special TooLong\n"

-- ---- the input, over the state of an office

-- the bytes are lists without faults
abbrev pub AreSpecialLists : SeasonFacts → State → List ℕ → Type 0
AreSpecialLists facts state bytes = (length bytes ≤ most_bundle_bytes) × MayBeHeld facts state bytes

-- there is no special round over the bytes, and this is why
abbrev pub HaveSpecialFault : SeasonFacts → State → List ℕ → SpecialFault → Type 0
HaveSpecialFault facts state bytes fault = (length bytes ≤ most_bundle_bytes) × IsSpecialFault facts state bytes fault × (fault ≢ NoMemoryForRound)

-- the bytes are too many, or there is no special round over them
abbrev pub AreFaultyLists : SeasonFacts → State → List ℕ → Type 0
AreFaultyLists facts state bytes = (most_bundle_bytes < length bytes) ⊎ ((fault : SpecialFault) × HaveSpecialFault facts state bytes fault)

-- the line of that
abbrev pub IsListsFaultLine : SeasonFacts → State → List ℕ → List ℕ → Type 0
IsListsFaultLine facts state bytes line = ((most_bundle_bytes < length bytes) × (line ≡ too_long_line))
    ⊎ ((fault : SpecialFault) × HaveSpecialFault facts state bytes fault × (line ≡ special_fault_line fault))

-- what is written of a special round over the bytes
abbrev pub IsSpecialOutput : SpecialPapers → SeasonFacts → State → List ℕ → List ℕ → Type 0
IsSpecialOutput papers facts state bytes output = (length bytes ≤ most_bundle_bytes) × ((special : Special) × IsSpecial facts state bytes special × IsPapersOf papers special output)

-- what the command answers to the bytes over that state
abbrev pub special_answers : SpecialPapers → SeasonFacts → State → Answers
special_answers papers facts state = record {
  IsInput = AreSpecialLists facts state;
  IsFaulty = AreFaultyLists facts state;
  IsOutput = IsSpecialOutput papers facts state;
  IsFaultLine = IsListsFaultLine facts state;
}

-- Bytes are such lists or have a fault, and never both. They have an output only if they are without faults, a line of
-- a fault only if they have one, and at most one such line.
pub record HaveOneSpecial (facts : SeasonFacts) (state : State) (bytes : List ℕ) : Type 0 where
  pub some : AreSpecialLists facts state bytes ⊎ AreFaultyLists facts state bytes
  pub apart : AreSpecialLists facts state bytes → AreFaultyLists facts state bytes → ⊥
  pub of_input : (papers : SpecialPapers) (output : List ℕ) → IsSpecialOutput papers facts state bytes output → AreSpecialLists facts state bytes
  pub of_fault : (line : List ℕ) → IsListsFaultLine facts state bytes line → AreFaultyLists facts state bytes
  pub one_line : (line other : List ℕ) → IsListsFaultLine facts state bytes line → IsListsFaultLine facts state bytes other → line ≡ other

-- The failure reports this fault by its line. Nothing is claimed of memory.
abbrev pub IsToldFault : SpecialFault → Failure → Type 0
IsToldFault fault Read = ⊥
IsToldFault fault (Bad line) = (fault ≢ NoMemoryForRound) × (line ≡ special_fault_line fault)
IsToldFault fault NoMemory = Unit {0}

-- ---- the input, over the tables of a keeper

-- over every state that the records lead to the bytes are lists without faults
abbrev pub AreKeptLists : Tables → List ℕ → Type 0
AreKeptLists tables bytes = (facts : SeasonFacts) (state : State) → IsResumed tables facts state → AreSpecialLists facts state bytes

-- over every state that the records lead to they have a fault
abbrev pub AreFaultyKeptLists : Tables → List ℕ → Type 0
AreFaultyKeptLists tables bytes = (facts : SeasonFacts) (state : State) → IsResumed tables facts state → AreFaultyLists facts state bytes

-- ---- how the command ends

-- the whole text that goes with each status if an office resumes, for the bytes that the source had left
abbrev pub IsSpecialText : SpecialPapers → SeasonFacts → State → Option (List ℕ) → Status → List ℕ → Type 0
IsSpecialText papers facts state left = IsTextOf (special_answers papers facts state) left

-- how `special` ends: no office resumes; or the records lead to the state of a season, and its special round is
-- written, or why there is none.
-- The tables are unchanged. What was kept is visible if the tables are visible both before and after.
abbrev pub EndsSpecial : SpecialPapers → Option (List ℕ) → Tables → Tables → Status → List ℕ → Type 0
EndsSpecial papers left before after status output = EndsUnresumed before after status output
    ⊎ ((facts : SeasonFacts) × (state : State) × IsResumed (still before after) facts state × Writes (IsSpecialText papers facts state left) status output × AreTold before after)

-- what comes after sound records: lists without errors are answered, and faulty ones are refused
abbrev pub AnswersLists : Readable → Readable → Outside → Outside → Status → Type 0
AnswersLists source now old new status = AnswersAfter (AreKeptLists (held old new)) (AreFaultyKeptLists (held old new)) source now old new status
