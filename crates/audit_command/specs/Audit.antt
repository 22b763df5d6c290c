-- The command `audit`: its input is a dossier, maybe with a special round behind it, its output the verdict on it.
use Rattle.std.specs.Prelude.{◌≡◌, ◌⊎◌, ℕ, Bool, true, false, List, Option, Result, Ok, Err}
use Rattle.office_base.specs.FaultLines.{memory_line, read_line}
use Rattle.office_base.specs.Outside.{Appends, AreLeft, IsAtEnd}
use Rattle.audit_rules.specs.declared.verdict.Verdict.{Verdict}
use Rattle.audit_rules.specs.declared.verdict.Verdict.TheVariants.{Sound, Broken}
use Rattle.special_audit.specs.Found.{IsFound}
use Rattle.special_audit.specs.Laws.{HasFoundFault, IsOfBytes}
use Rattle.special_audit.specs.declared.found.Found.{Found}
use Rattle.special_audit.specs.declared.found.Found.TheVariants.{OfSeason, OfSpecial}
use Rattle.special_audit.specs.declared.found.FoundFault.{FoundFault}
use Rattle.command_answers.specs.Answers.{Answers, HasLeft, Tells}
use Rattle.command_answers.specs.Ends.{BlamesStreams, EndedWith, Held}
use Rattle.office_base.specs.Visible.{Streams}
use Rattle.command_answers.specs.Writes.{Writes, status_of, text_of}
use Rattle.command_answers.specs.declared.failure.Failure.{Failure}
use Rattle.command_answers.specs.declared.failure.Failure.TheVariants.{Read, Bad, NoMemory}
use Rattle.command_answers.specs.declared.status.Status.{Status}
use Rattle.command_answers.specs.declared.status.Status.TheVariants.{Ok as Done, BadInput, ReadFault, OutOfMemory, Broken as BrokenStatus}
use Rattle.audit_command.specs.Texts.{found_line, special_verdict_line, verdict_line}
use Rattle.audit_command.specs.declared.answer.Audited.{Audited}
use Rattle.audit_command.specs.declared.answer.Audited.TheVariants.{Sound as SoundText, Broken as BrokenText}

-- ---- the input

-- the bytes are a dossier, maybe with a special round behind it: an audit finds something of them
abbrev pub AreDossier : List ℕ → Type 0
AreDossier bytes = (found : Found) × IsFound bytes found

-- the bytes have a fault as one
abbrev pub AreFaultyDossier : List ℕ → Type 0
AreFaultyDossier bytes = (fault : FoundFault) × HasFoundFault bytes fault

-- ---- the output

-- the line of what is found: of the season's verdict, or of the special round's behind so many sound rounds
abbrev pub found_verdict_line : Found → List ℕ
found_verdict_line (OfSeason dossier verdict) = verdict_line dossier.season.matrix verdict
found_verdict_line (OfSpecial dossier rounds special verdict) = special_verdict_line special.season.matrix rounds verdict

-- the verdict that decides
abbrev pub verdict_of : Found → Verdict
verdict_of (OfSeason dossier verdict) = verdict
verdict_of (OfSpecial dossier rounds special verdict) = verdict

-- it says that no clause is broken
abbrev pub says_sound : Verdict → Bool
says_sound (Sound rounds) = true
says_sound (Broken round clause prog cand) = false

-- an audit finds this of the bytes, and this is its line
abbrev pub IsFoundLine : List ℕ → Found → List ℕ → Type 0
IsFoundLine bytes found line = IsFound bytes found × (line ≡ found_verdict_line found)

-- an audit finds no broken clause in the bytes, and this is the line that says so
abbrev pub IsSoundOutput : List ℕ → List ℕ → Type 0
IsSoundOutput bytes output = (found : Found) × (says_sound (verdict_of found) ≡ true) × IsFoundLine bytes found output

-- it finds a broken clause, and this is the line of the first one
abbrev pub IsBrokenOutput : List ℕ → List ℕ → Type 0
IsBrokenOutput bytes output = (found : Found) × (says_sound (verdict_of found) ≡ false) × IsFoundLine bytes found output

-- the bytes are a dossier, and this is the line of its verdict
abbrev pub IsAuditOutput : List ℕ → List ℕ → Type 0
IsAuditOutput bytes output = IsSoundOutput bytes output ⊎ IsBrokenOutput bytes output

-- the bytes have a fault as a dossier, and this is its line
abbrev pub IsDossierFaultLine : List ℕ → List ℕ → Type 0
IsDossierFaultLine bytes line = (fault : FoundFault) × HasFoundFault bytes fault × (line ≡ found_line fault)

-- what `audit` answers
abbrev pub audit_answers : Answers
audit_answers = record { IsInput = AreDossier; IsFaulty = AreFaultyDossier; IsOutput = IsAuditOutput; IsFaultLine = IsDossierFaultLine }

-- Bytes that are a dossier have no fault as one, and one line of a verdict at most. Such a line comes only of a dossier,
-- a line of a fault only of bytes with one, and at most one such line. No bytes are both sound and broken.
pub record HaveOneAudit (bytes : List ℕ) : Type 0 where
  pub apart : AreDossier bytes → AreFaultyDossier bytes → ⊥
  pub of_input : (output : List ℕ) → IsAuditOutput bytes output → AreDossier bytes
  pub of_fault : (line : List ℕ) → IsDossierFaultLine bytes line → AreFaultyDossier bytes
  pub one_output : (output other : List ℕ) → IsAuditOutput bytes output → IsAuditOutput bytes other → output ≡ other
  pub one_line : (line other : List ℕ) → IsDossierFaultLine bytes line → IsDossierFaultLine bytes other → line ≡ other
  pub one_kind : (output other : List ℕ) → IsSoundOutput bytes output → IsBrokenOutput bytes other → ⊥

-- ---- the answer

-- the answer reports what is found by this line
abbrev pub TellsFound : Verdict → List ℕ → Audited → Type 0
TellsFound (Sound rounds) line (SoundText text) = text ≡ line
TellsFound (Sound rounds) line (BrokenText text) = ⊥
TellsFound (Broken round clause prog cand) line (SoundText text) = ⊥
TellsFound (Broken round clause prog cand) line (BrokenText text) = text ≡ line

-- the answer reports what an audit finds
abbrev pub IsAnswerTo : Found → Audited → Type 0
IsAnswerTo found answer = TellsFound (verdict_of found) (found_verdict_line found) answer

-- what an audit finds of the bytes that were left
abbrev pub HasFound : Option (List ℕ) → Found → Type 0
HasFound left found = (bytes : List ℕ) × AreLeft bytes left × IsFound bytes found

-- the answer to the bytes that were left: a sound dossier has its line, and so has one of which a clause is broken
abbrev pub IsAuditOf : Option (List ℕ) → Audited → Type 0
IsAuditOf left (SoundText text) = HasLeft IsSoundOutput left text
IsAuditOf left (BrokenText text) = HasLeft IsBrokenOutput left text

-- The failure reports this fault by its line. Nothing is claimed of memory.
abbrev pub TellsFault : FoundFault → Failure → Type 0
TellsFault fault Read = ⊥
TellsFault fault (Bad line) = IsOfBytes fault × (line ≡ found_line fault)
TellsFault fault NoMemory = Unit {0}

-- ---- how the command ends

-- the status of an answer, and the text that goes with it
abbrev pub status_of_audit : Result Audited Failure → Status
status_of_audit (Ok (SoundText text)) = Done
status_of_audit (Ok (BrokenText text)) = BrokenStatus
status_of_audit (Err failure) = status_of (Err failure)

abbrev pub text_of_audit : Result Audited Failure → List ℕ
text_of_audit (Ok (SoundText text)) = text
text_of_audit (Ok (BrokenText text)) = text
text_of_audit (Err failure) = text_of (Err failure)

-- the whole text that goes with each status of the command, for the bytes that the source had left
abbrev pub IsAuditText : Option (List ℕ) → Status → List ℕ → Type 0
IsAuditText left Done text = HasLeft IsSoundOutput left text
IsAuditText left BrokenStatus text = HasLeft IsBrokenOutput left text
IsAuditText left BadInput text = HasLeft IsDossierFaultLine left text
IsAuditText left ReadFault text = text ≡ read_line
IsAuditText left OutOfMemory text = text ≡ memory_line
IsAuditText left other text = ⊥

-- the statuses with which the command ends well: no clause is broken, or one is
abbrev pub EndsWell : Status → Type 0
EndsWell status = (status ≡ Done) ⊎ (status ≡ BrokenStatus)

-- How `audit` ends, by the source and the sink as it finds them and leaves them.
pub record Audits (old new : Streams) (status : Status) : Type 0 where
  -- what is written is the text of the status for the bytes that the source had left,
  -- or a prefix of a text if the sink failed
  pub written : (output : List ℕ) × Appends output old.sink.written new.sink.written × Writes (IsAuditText old.source.left) status output
  pub read_whole : EndsWell status → IsAtEnd new.source.left
  pub blamed : BlamesStreams status old new
  -- if neither failed, a dossier has a verdict, and bytes that are no dossier are refused
  pub complete : Tells AreDossier old.source.left → Held old new → EndedWith EndsWell status
  pub refused : Tells AreFaultyDossier old.source.left → Held old new → EndedWith (λ end. end ≡ BadInput) status
