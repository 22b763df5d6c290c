-- The same bytes of a dossier give the same output of `audit` and of `audit best`.
use Rattle.std.specs.Prelude.{◌≡◌, ℕ, List, Some}
use Rattle.command_answers.specs.Status.{IsAnswered}
use Rattle.command_answers.specs.Writes.{Writes}
use Rattle.command_answers.specs.declared.status.Status.{Status}
use Rattle.audit_command.specs.Audit.{IsAuditText}
use Rattle.audit_command.specs.Best.{IsBestText}

-- Two runs of `audit` over the same bytes that both end with an answer end with the same status and write the same.
abbrev pub AuditsAreOne : Type 0
AuditsAreOne = (bytes output again : List ℕ) (status other : Status) → IsAnswered status → IsAnswered other → Writes (IsAuditText (Some bytes)) status output
    → Writes (IsAuditText (Some bytes)) other again → (status ≡ other) × (output ≡ again)

-- So do two of `audit best`.
abbrev pub BestAuditsAreOne : Type 0
BestAuditsAreOne = (bytes output again : List ℕ) (status other : Status) → IsAnswered status → IsAnswered other → Writes (IsBestText (Some bytes)) status output
    → Writes (IsBestText (Some bytes)) other again → (status ≡ other) × (output ≡ again)

-- Both are one.
pub record EachAuditIsOne : Type 0 where
  pub audits : AuditsAreOne
  pub best : BestAuditsAreOne
