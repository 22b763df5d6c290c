-- The same lists over the same kept records give the same output of `special`.
use Rattle.std.specs.Prelude.{◌≡◌, ℕ, List, Some}
use Rattle.kept_rows.specs.Tables.{Tables}
use Rattle.command_answers.specs.Status.{IsAnswered}
use Rattle.command_answers.specs.declared.status.Status.{Status}
use Rattle.special_command.specs.Special.{EndsSpecial}
use Rattle.special_command.specs.declared.lists.SpecialPapers.{SpecialPapers}
use Rattle.same_input_laws.specs.ResumeOutputs.{IsVisible}

-- Two runs over the same bytes and the same visible tables that both end with an answer end with the same status and write the same.
abbrev pub SpecialsAreOne : Type 0
SpecialsAreOne = (papers : SpecialPapers) (bytes output again : List ℕ) (before after later : Tables) (status other : Status) → IsAnswered status → IsAnswered other → IsVisible before after → IsVisible before later
    → EndsSpecial papers (Some bytes) before after status output → EndsSpecial papers (Some bytes) before later other again → (status ≡ other) × (output ≡ again)
