-- The same requests over the same kept records give the same output of `resume`, and keep the same records.
use Rattle.std.specs.Prelude.{◌≡◌, ℕ, List, Some}
use Rattle.kept_rows.specs.Tables.{IsTold, Tables, still}
use Rattle.command_answers.specs.Status.{IsAnswered}
use Rattle.command_answers.specs.declared.status.Status.{Status}
use Rattle.resume_command.specs.Resume.{EndsResume}
use Rattle.same_input_laws.specs.Keep.{HoldTheSame}

-- what was kept is visible: the tables are visible both before and after
abbrev pub IsVisible : Tables → Tables → Type 0
IsVisible before after = IsTold (still before after)

-- Two runs over the same bytes and the same visible tables that both end with an answer end with the same status, write the same and leave tables that hold the same.
abbrev pub ResumesAreOne : Type 0
ResumesAreOne = (bytes output again : List ℕ) (before after later : Tables) (status other : Status) → IsAnswered status → IsAnswered other → IsVisible before after → IsVisible before later
    → EndsResume (Some bytes) before after status output → EndsResume (Some bytes) before later other again
    → (status ≡ other) × (output ≡ again) × HoldTheSame after later
