-- The failures to read a bundle have their causes.
use Rattle.std.proofs.Common.{◌≡◌, ℕ, Bool, true, List, Option, refl}
use Rattle.office_base.specs.Limits.{most_bundle_bytes}
use Rattle.season_file.specs.Laws.{HasFault}
use Rattle.season_file.specs.Season.{GaveFault, IsSeasonFault, IsSourceFault}
use Rattle.season_file.specs.declared.fault.SeasonFault.{SeasonFault}
use Rattle.season_file.specs.declared.fault.SeasonFault.TheVariants.{ReadFault, TooLong, OutOfMemory}
use Rattle.season_texts.specs.Texts.{fault_line}
use Rattle.command_answers.specs.Answers.{HasLeft, IsFailureOf}
use Rattle.season_commands.specs.Check.{IsBundleFaultLine, TellsSeasonFault, bundle_answers, check_answers}
use Rattle.command_answers.specs.declared.failure.Failure.{Failure}
use Rattle.command_answers.specs.declared.failure.Failure.TheVariants.{Read, Bad, NoMemory}
use Rattle.command_answers.proofs.Ended.{all_left, long_left}

-- the line of a fault of the bytes that a source gave
told_left : (requests : Bool) (left after : Option (List ℕ)) (fault : SeasonFault) (line : List ℕ) → GaveFault requests left after fault → ((bytes : List ℕ) → IsSeasonFault requests bytes fault → HasFault requests bytes fault)
    → line ≡ fault_line fault → HasLeft (IsBundleFaultLine requests) left line
told_left requests left after fault line given has told = let (bytes, took, end, first) = given in (bytes, all_left bytes left after took end, (fault, has bytes first, told))

-- the line of a source's fault
line_left : (requests : Bool) (left after : Option (List ℕ)) (fault : SeasonFault) (line : List ℕ) → (fault ≡ ReadFault → ⊥) → (fault ≡ OutOfMemory → ⊥) → IsSourceFault requests left after fault → line ≡ fault_line fault
    → HasLeft (IsBundleFaultLine requests) left line
line_left requests left after ReadFault line read memory first told = absurd (read refl)
line_left requests left after TooLong line read memory first told = let long = long_left most_bundle_bytes left after first in (long.0, long.1, (TooLong, long.2, told))
line_left requests left after OutOfMemory line read memory first told = absurd (memory refl)
line_left requests left after fault line read memory first told = told_left requests left after fault line first (λ bytes h. h) told

-- A failure that reports a season's fault has its cause.
pub season_failed : (requests : Bool) (left after : Option (List ℕ)) (failed : Type 0) (fault : SeasonFault) (failure : Failure) → (fault ≡ ReadFault → failed) → IsSourceFault requests left after fault
    → TellsSeasonFault fault failure → IsFailureOf (bundle_answers requests) left failed failure
season_failed requests left after failed fault Read cause first told = cause told
season_failed requests left after failed fault (Bad line) cause first told = line_left requests left after fault line told.0 told.1 first told.2
season_failed requests left after failed fault NoMemory cause first told = tt

-- So it has under `check`.
pub check_failed : (left : Option (List ℕ)) (failed : Type 0) (failure : Failure) → IsFailureOf (bundle_answers true) left failed failure → IsFailureOf check_answers left failed failure
check_failed left failed Read cause = cause
check_failed left failed (Bad line) cause = cause
check_failed left failed NoMemory cause = cause

-- If it reports no failed source, the source did not fail.
pub season_held : (fault : SeasonFault) (failure : Failure) (Held : Type 0) → ((fault ≡ ReadFault → ⊥) → Held) → TellsSeasonFault fault failure → (failure ≡ Read → ⊥) → Held
season_held fault Read Held steady told other = absurd (other refl)
season_held fault (Bad line) Held steady told other = steady told.0
season_held fault NoMemory Held steady told other = steady told
