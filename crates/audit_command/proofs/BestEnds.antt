-- How the command `audit best` ends.
use Rattle.std.proofs.Common.{◌≡◌, ◌⊎◌, inl, inr, ℕ, List, Option, Some, None, Result, Ok, Err, refl, subst}
use Rattle.std.specs.Prelude.{IfOk, IfErr}
use Rattle.office_base.specs.Outside.{Appends}
use Rattle.special_audit.specs.declared.found.Found.{Found}
use Rattle.special_audit.specs.declared.found.Found.TheVariants.{OfSeason, OfSpecial}
use Rattle.command_answers.specs.Answers.{HasLeft, IsFailureOf, Tells}
use Rattle.command_answers.specs.Writes.{IsTextOut, Writes}
use Rattle.command_answers.specs.declared.failure.Failure.{Failure}
use Rattle.command_answers.specs.declared.failure.Failure.TheVariants.{Read, Bad, NoMemory}
use Rattle.command_answers.specs.declared.status.Status.{Status}
use Rattle.command_answers.specs.declared.status.Status.TheVariants.{BadInput, OutOfMemory}
use Rattle.command_answers.proofs.Ended.{told_is_written, status_is_told}
use Rattle.audit_command.specs.Audit.{AreDossier, AreFaultyDossier, HasFound, HaveOneAudit, audit_answers, status_of_audit, text_of_audit}
use Rattle.audit_command.specs.Best.{AreVerdicts, IsBestAnswerTo, IsBestAuditOutput, IsBestOfLeft, IsBestText, best_answers}
use Rattle.audit_command.specs.declared.answer.Audited.{Audited}
use Rattle.audit_command.specs.declared.answer.Audited.TheVariants.{Sound as SoundText, Broken as BrokenText}

-- ---- the answer

-- what is found has its verdicts
pub verdicts_are : (left : Option (List ℕ)) (found : Found) → HasFound left found → AreVerdicts found
verdicts_are left (OfSeason dossier verdict) (bytes, are, is) = is.0
verdicts_are left (OfSpecial dossier rounds special verdict) (bytes, are, is) = (is.0.sound, is.1)

-- The answer that tells what is found is one to the bytes that were left.
pub best_left : (left : Option (List ℕ)) (found : Found) (answer : Audited) → HasFound left found → IsBestAnswerTo found answer → IsBestOfLeft left answer
best_left left found (SoundText text) (bytes, are, is) has = (bytes, are, (found, is, has))
best_left left found (BrokenText text) (bytes, are, is) (inl broken) = (bytes, are, inl (found, broken.0, (is, broken.1)))
best_left left found (BrokenText text) (bytes, are, is) (inr short) = (bytes, are, inr (short.0, short.1, (found, is, short.2)))

-- a failure has its cause under both commands
pub as_best : (left : Option (List ℕ)) (failed : Type 0) (failure : Failure) → IsFailureOf audit_answers left failed failure → IsFailureOf best_answers left failed failure
as_best left failed Read cause = cause
as_best left failed (Bad line) cause = cause
as_best left failed NoMemory cause = tt

pub as_audit : (left : Option (List ℕ)) (failed : Type 0) (answer : Result Audited Failure) → IfErr answer (IsFailureOf best_answers left failed) → IfErr answer (IsFailureOf audit_answers left failed)
as_audit left failed (Ok answer) cause = tt
as_audit left failed (Err Read) cause = cause
as_audit left failed (Err (Bad line)) cause = cause
as_audit left failed (Err NoMemory) cause = tt

-- ---- the end

-- the text of an answer goes with its status
text_of_answer : (left : Option (List ℕ)) (failed : Type 0) (answer : Result Audited Failure) → IfOk answer (IsBestOfLeft left) → IfErr answer (IsFailureOf best_answers left failed)
    → IsBestText left (status_of_audit answer) (text_of_audit answer)
text_of_answer left failed (Ok (SoundText text)) made cause = made
text_of_answer left failed (Ok (BrokenText text)) made cause = made
text_of_answer left failed (Err Read) made cause = refl
text_of_answer left failed (Err (Bad line)) made cause = cause
text_of_answer left failed (Err NoMemory) made cause = refl

-- What was written of an audit with a second verdict.
pub best_is_written : (left : Option (List ℕ)) (failed : Type 0) (answer : Result Audited Failure) (result : Status) (before after : Option (List ℕ)) (broke : Type 0)
    → IfOk answer (IsBestOfLeft left) → IfErr answer (IsFailureOf best_answers left failed) → IsTextOut (status_of_audit answer) (text_of_audit answer) before after broke result
    → (output : List ℕ) × Appends output before after × Writes (IsBestText left) result output
best_is_written left failed answer result before after broke made cause told =
    told_is_written (IsBestText left) (status_of_audit answer) result (text_of_audit answer) before after broke (text_of_answer left failed answer made cause) told

-- the output of `audit best` is that of a dossier
of_dossier : (bytes output : List ℕ) → IsBestAuditOutput bytes output → AreDossier bytes
of_dossier bytes output (inl best) = (best.0, best.1)
of_dossier bytes output (inr (inl broken)) = (broken.0, broken.2.0)
of_dossier bytes output (inr (inr short)) = (short.2.0, short.2.1)

not_dossier : (left : Option (List ℕ)) (output : List ℕ) → ((bytes : List ℕ) → HaveOneAudit bytes) → Tells AreFaultyDossier left → HasLeft IsBestAuditOutput left output → ⊥
not_dossier None output laws tells made = tells
not_dossier (Some bytes) output laws tells made = (laws bytes).apart (subst AreDossier made.1 (of_dossier made.0 output made.2)) tells

-- Bytes with a fault are refused, if neither side failed and there was memory.
pub best_is_refused : (left : Option (List ℕ)) (failed : Type 0) (answer : Result Audited Failure) (result : Status) (before after : Option (List ℕ)) (broke : Type 0)
    → ((bytes : List ℕ) → HaveOneAudit bytes) → IfOk answer (IsBestOfLeft left) → IfErr answer (IsFailureOf best_answers left failed)
    → IsTextOut (status_of_audit answer) (text_of_audit answer) before after broke result
    → Tells AreFaultyDossier left → (failed → ⊥) → (broke → ⊥) → (result ≡ BadInput) ⊎ (result ≡ OutOfMemory)
best_is_refused left failed (Ok (SoundText text)) result before after broke laws made cause told tells read wrote = absurd (not_dossier left text laws tells (made.0, made.1, inl made.2))
best_is_refused left failed (Ok (BrokenText text)) result before after broke laws made cause told tells read wrote = absurd (not_dossier left text laws tells (made.0, made.1, inr made.2))
best_is_refused left failed (Err Read) result before after broke laws made cause told tells read wrote = absurd (read cause)
best_is_refused left failed (Err (Bad line)) result before after broke laws made cause told tells read wrote = inl (status_is_told BadInput result line before after broke told wrote)
best_is_refused left failed (Err NoMemory) result before after broke laws made cause told tells read wrote = inr (status_is_told OutOfMemory result _ before after broke told wrote)
