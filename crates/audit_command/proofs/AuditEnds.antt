-- How the command `audit` ends.
use Rattle.std.proofs.Common.{◌≡◌, ◌⊎◌, inl, inr, ℕ, List, Option, Some, None, Result, Ok, Err, refl, subst}
use Rattle.std.specs.Prelude.{IfOk, IfErr}
use Rattle.office_base.specs.Outside.{Appends}
use Rattle.command_answers.specs.Answers.{HasLeft, IsFailureOf, Tells}
use Rattle.command_answers.specs.Writes.{IsTextOut, Writes}
use Rattle.command_answers.specs.declared.failure.Failure.{Failure}
use Rattle.command_answers.specs.declared.failure.Failure.TheVariants.{Read, Bad, NoMemory}
use Rattle.command_answers.specs.declared.status.Status.{Status}
use Rattle.command_answers.specs.declared.status.Status.TheVariants.{Ok as Done, BadInput, OutOfMemory, Broken}
use Rattle.command_answers.proofs.Ended.{told_is_written, status_is_told}
use Rattle.audit_command.specs.Audit.{AreDossier, AreFaultyDossier, EndsWell, HaveOneAudit, IsAuditOf, IsAuditOutput, IsAuditText, IsDossierFaultLine, audit_answers, status_of_audit, text_of_audit}
use Rattle.audit_command.specs.declared.answer.Audited.{Audited}
use Rattle.audit_command.specs.declared.answer.Audited.TheVariants.{Sound as SoundText, Broken as BrokenText}

-- the text of an answer goes with its status
text_of_answer : (left : Option (List ℕ)) (failed : Type 0) (answer : Result Audited Failure) → IfOk answer (IsAuditOf left) → IfErr answer (IsFailureOf audit_answers left failed)
    → IsAuditText left (status_of_audit answer) (text_of_audit answer)
text_of_answer left failed (Ok (SoundText text)) made cause = made
text_of_answer left failed (Ok (BrokenText text)) made cause = made
text_of_answer left failed (Err Read) made cause = refl
text_of_answer left failed (Err (Bad line)) made cause = cause
text_of_answer left failed (Err NoMemory) made cause = refl

-- What was written of an audit.
pub audit_is_written : (left : Option (List ℕ)) (failed : Type 0) (answer : Result Audited Failure) (result : Status) (before after : Option (List ℕ)) (broke : Type 0)
    → IfOk answer (IsAuditOf left) → IfErr answer (IsFailureOf audit_answers left failed) → IsTextOut (status_of_audit answer) (text_of_audit answer) before after broke result
    → (output : List ℕ) × Appends output before after × Writes (IsAuditText left) result output
audit_is_written left failed answer result before after broke made cause told =
    told_is_written (IsAuditText left) (status_of_audit answer) result (text_of_audit answer) before after broke (text_of_answer left failed answer made cause) told

-- a dossier has no fault's line, and what has a fault has no verdict
not_faulty : (left : Option (List ℕ)) (line : List ℕ) → ((bytes : List ℕ) → HaveOneAudit bytes) → Tells AreDossier left → HasLeft IsDossierFaultLine left line → ⊥
not_faulty None line laws tells has = tells
not_faulty (Some bytes) line laws tells has = (laws bytes).apart tells (subst AreFaultyDossier has.1 ((laws has.0).of_fault line has.2))

not_dossier : (left : Option (List ℕ)) (output : List ℕ) → ((bytes : List ℕ) → HaveOneAudit bytes) → Tells AreFaultyDossier left → HasLeft IsAuditOutput left output → ⊥
not_dossier None output laws tells made = tells
not_dossier (Some bytes) output laws tells made = (laws bytes).apart (subst AreDossier made.1 ((laws made.0).of_input output made.2)) tells

-- A dossier is audited, if neither side failed and memory did not run out.
pub dossier_is_audited : (left : Option (List ℕ)) (failed : Type 0) (answer : Result Audited Failure) (result : Status) (before after : Option (List ℕ)) (broke : Type 0)
    → ((bytes : List ℕ) → HaveOneAudit bytes) → IfErr answer (IsFailureOf audit_answers left failed) → IsTextOut (status_of_audit answer) (text_of_audit answer) before after broke result
    → Tells AreDossier left → (failed → ⊥) → (broke → ⊥) → EndsWell result ⊎ (result ≡ OutOfMemory)
dossier_is_audited left failed (Ok (SoundText text)) result before after broke laws cause told tells read wrote = inl (inl (status_is_told Done result text before after broke told wrote))
dossier_is_audited left failed (Ok (BrokenText text)) result before after broke laws cause told tells read wrote = inl (inr (status_is_told Broken result text before after broke told wrote))
dossier_is_audited left failed (Err Read) result before after broke laws cause told tells read wrote = absurd (read cause)
dossier_is_audited left failed (Err (Bad line)) result before after broke laws cause told tells read wrote = absurd (not_faulty left line laws tells cause)
dossier_is_audited left failed (Err NoMemory) result before after broke laws cause told tells read wrote = inr (status_is_told OutOfMemory result _ before after broke told wrote)

-- Bytes with a fault are refused, if neither side failed and memory did not run out.
pub fault_is_refused : (left : Option (List ℕ)) (failed : Type 0) (answer : Result Audited Failure) (result : Status) (before after : Option (List ℕ)) (broke : Type 0)
    → ((bytes : List ℕ) → HaveOneAudit bytes) → IfOk answer (IsAuditOf left) → IfErr answer (IsFailureOf audit_answers left failed)
    → IsTextOut (status_of_audit answer) (text_of_audit answer) before after broke result
    → Tells AreFaultyDossier left → (failed → ⊥) → (broke → ⊥) → (result ≡ BadInput) ⊎ (result ≡ OutOfMemory)
fault_is_refused left failed (Ok (SoundText text)) result before after broke laws made cause told tells read wrote = absurd (not_dossier left text laws tells (made.0, made.1, inl made.2))
fault_is_refused left failed (Ok (BrokenText text)) result before after broke laws made cause told tells read wrote = absurd (not_dossier left text laws tells (made.0, made.1, inr made.2))
fault_is_refused left failed (Err Read) result before after broke laws made cause told tells read wrote = absurd (read cause)
fault_is_refused left failed (Err (Bad line)) result before after broke laws made cause told tells read wrote = inl (status_is_told BadInput result line before after broke told wrote)
fault_is_refused left failed (Err NoMemory) result before after broke laws made cause told tells read wrote = inr (status_is_told OutOfMemory result _ before after broke told wrote)
