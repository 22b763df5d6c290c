-- The answers and failures of `audit` have their causes.
use Rattle.std.proofs.Common.{◌≡◌, ◌<◌, inl, ℕ, List, Option, length, refl, ap}
use Rattle.office_base.specs.Limits.{most_bundle_bytes}
use Rattle.audit_rules.specs.declared.verdict.Verdict.{Verdict}
use Rattle.audit_rules.specs.declared.verdict.Verdict.TheVariants.{Sound, Broken}
use Rattle.dossier_file.specs.declared.fault.DossierFault.TheVariants.{TooLong}
use Rattle.special_audit.specs.Found.{IsFoundFault}
use Rattle.special_audit.specs.declared.found.Found.{Found}
use Rattle.special_audit.specs.declared.found.FoundFault.{FoundFault}
use Rattle.special_audit.specs.declared.found.FoundFault.TheVariants.{Dossier as BadDossier}
use Rattle.command_answers.specs.Answers.{IsInputFailure}
use Rattle.command_answers.specs.declared.failure.Failure.{Failure}
use Rattle.command_answers.specs.declared.failure.Failure.TheVariants.{Read, Bad, NoMemory}
use Rattle.audit_command.specs.Audit.{HasFound, IsAnswerTo, IsAuditOf, TellsFault, TellsFound, audit_answers, found_verdict_line, says_sound, verdict_of}
use Rattle.audit_command.specs.declared.answer.Audited.{Audited}
use Rattle.audit_command.specs.declared.answer.Audited.TheVariants.{Sound as SoundText, Broken as BrokenText}

-- The answer that tells what is found is one to the bytes that were left.
pub answer_left : (left : Option (List ℕ)) (found : Found) (answer : Audited) → HasFound left found → IsAnswerTo found answer → IsAuditOf left answer
answer_left left found answer (bytes, are, is) told = by (verdict_of found) refl answer told
  where
    by : (verdict : Verdict) → verdict_of found ≡ verdict → (answer : Audited) → TellsFound verdict (found_verdict_line found) answer → IsAuditOf left answer
    by (Sound rounds) e (SoundText text) told = (bytes, are, (found, ap says_sound e, (is, told)))
    by (Sound rounds) e (BrokenText text) told = absurd told
    by (Broken round clause prog cand) e (SoundText text) told = absurd told
    by (Broken round clause prog cand) e (BrokenText text) told = (bytes, are, (found, ap says_sound e, (is, told)))

-- A failure that reports a fault of bytes has its cause.
pub fault_failed : (bytes : List ℕ) (fault : FoundFault) (failure : Failure) → IsFoundFault bytes fault → TellsFault fault failure → IsInputFailure audit_answers bytes failure
fault_failed bytes fault Read is told = told
fault_failed bytes fault (Bad line) is told = (fault, (told.0, is), told.1)
fault_failed bytes fault NoMemory is told = tt

-- So has one that reports too many bytes.
pub long_failed : (bytes : List ℕ) (failure : Failure) → most_bundle_bytes < length bytes → TellsFault (BadDossier TooLong) failure → IsInputFailure audit_answers bytes failure
long_failed bytes failure long told = fault_failed bytes (BadDossier TooLong) failure (inl long) told
