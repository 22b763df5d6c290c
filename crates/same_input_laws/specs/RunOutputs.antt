-- The same input gives the same output of a command.
use Rattle.std.specs.Prelude.{◌≡◌, ℕ, List, Some}
use Rattle.kept_rows.specs.Tables.{Tables}
use Rattle.command_answers.specs.Status.{IsAnswered}
use Rattle.command_answers.specs.Writes.{IsTextOf, Writes}
use Rattle.command_answers.specs.declared.status.Status.{Status}
use Rattle.season_commands.specs.Check.{check_answers}
use Rattle.season_commands.specs.Generated.{EndsGeneratedRun}
use Rattle.season_commands.specs.Run.{EndsRun}

-- two runs of `check` over the same bytes, with the same status, write the same
abbrev pub ChecksAreOne : Type 0
ChecksAreOne = (bytes output again : List ℕ) (status : Status) → IsAnswered status → Writes (IsTextOf check_answers (Some bytes)) status output
    → Writes (IsTextOf check_answers (Some bytes)) status again → output ≡ again

-- Two runs over the same bytes that end with the same status write the same, whatever tables each keeper had before.
abbrev pub RunsAreOne : Type 0
RunsAreOne = (bytes output again : List ℕ) (before after others later : Tables) (status : Status) → IsAnswered status → EndsRun (Some bytes) before after status output
    → EndsRun (Some bytes) others later status again → output ≡ again

-- So do two of the same generated season.
abbrev pub GeneratedRunsAreOne : Type 0
GeneratedRunsAreOne = (n seed : ℕ) (output again : List ℕ) (before after others later : Tables) (status : Status) → IsAnswered status
    → EndsGeneratedRun n seed before after status output → EndsGeneratedRun n seed others later status again → output ≡ again

-- So it is of each of these commands.
pub record CommandsAreOne : Type 0 where
  pub checks : ChecksAreOne
  pub runs : RunsAreOne
  pub generated : GeneratedRunsAreOne
