-- The same bytes give the same output of `units`.
use Rattle.std.specs.Prelude.{◌≡◌, ℕ, List, Some}
use Rattle.kept_rows.specs.Tables.{Tables}
use Rattle.command_answers.specs.Status.{IsAnswered}
use Rattle.command_answers.specs.declared.status.Status.{Status}
use Rattle.units_command.specs.Units.{EndsUnits}

-- Two runs over the same bytes that end with the same status write the same, whatever tables each keeper had before.
abbrev pub UnitsAreOne : Type 0
UnitsAreOne = (bytes output again : List ℕ) (before after others later : Tables) (status : Status) → IsAnswered status → EndsUnits (Some bytes) before after status output
    → EndsUnits (Some bytes) others later status again → output ≡ again
