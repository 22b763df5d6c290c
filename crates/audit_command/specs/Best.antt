-- The command `audit best`: its input is a dossier, its output the verdict on it and, if no clause is broken, whether every published round is the best one.
use Rattle.std.specs.Prelude.{◌≡◌, ◌⊎◌, ◌++◌, ℕ, true, false, List, Option, codes}
use Rattle.std.specs.Fmt.{decimal}
use Rattle.office_base.specs.FaultLines.{memory_line, read_line}
use Rattle.office_base.specs.Outside.{Appends, IsAtEnd}
use Rattle.office_base.specs.Visible.{Streams}
use Rattle.office_base.specs.declared.person.CandId.{CandId}
use Rattle.season_facts.specs.Season.{facts_of}
use Rattle.season_audit.specs.Audit.{papers_in}
use Rattle.best_audit.specs.Best.{IsBestVerdict}
use Rattle.best_audit.specs.declared.verdict.BestVerdict.{BestVerdict}
use Rattle.best_audit.specs.declared.verdict.BestVerdict.TheVariants.{Best, NotBest}
use Rattle.dossier_file.specs.declared.dossier.Dossier.{Dossier}
use Rattle.audit_rules.specs.declared.verdict.Verdict.TheVariants.{Sound}
use Rattle.special_audit.specs.Found.{HasVerdict, IsFound}
use Rattle.special_audit.specs.declared.found.Found.{Found}
use Rattle.special_audit.specs.declared.found.Found.TheVariants.{OfSeason, OfSpecial}
use Rattle.command_answers.specs.Answers.{Answers, HasLeft, Tells}
use Rattle.command_answers.specs.Ends.{BlamesStreams, EndedWith, Held}
use Rattle.command_answers.specs.Writes.{Writes}
use Rattle.command_answers.specs.declared.status.Status.{Status}
use Rattle.command_answers.specs.declared.status.Status.TheVariants.{Ok as Done, BadInput, ReadFault, OutOfMemory, Broken as BrokenStatus}
use Rattle.audit_command.specs.Audit.{AreDossier, AreFaultyDossier, EndsWell, IsBrokenOutput, IsDossierFaultLine, found_verdict_line, says_sound, verdict_of}
use Rattle.audit_command.specs.declared.answer.Audited.{Audited}
use Rattle.audit_command.specs.declared.answer.Audited.TheVariants.{Sound as SoundText, Broken as BrokenText}
use Rattle.audit_command.specs.declared.second.Second.{Second}
use Rattle.audit_command.specs.declared.second.Second.TheVariants.{AllBest, NotBestRound, NotBestSpecial}

-- ---- the second verdict

-- the second verdict on a dossier
abbrev pub IsBestOf : Dossier → BestVerdict → Type 0
IsBestOf dossier verdict = IsBestVerdict (facts_of dossier.season) dossier.script (papers_in dossier) verdict

-- the second verdict on a season: every round is the best one, or the first that is not
abbrev pub IsSeasonSecond : Dossier → Second → Type 0
IsSeasonSecond dossier AllBest = IsBestOf dossier Best
IsSeasonSecond dossier (NotBestRound round cand) = IsBestOf dossier (NotBest round cand)
IsSeasonSecond dossier (NotBestSpecial cand) = ⊥

-- the same of a season and its special round, which comes last
abbrev pub IsSpecialSecond : Dossier → Dossier → Second → Type 0
IsSpecialSecond dossier special AllBest = IsBestOf dossier Best × IsBestOf special Best
IsSpecialSecond dossier special (NotBestRound round cand) = IsBestOf dossier (NotBest round cand)
IsSpecialSecond dossier special (NotBestSpecial cand) = IsBestOf dossier Best × ((round : ℕ) × IsBestOf special (NotBest round cand))

-- the second verdict on what an audit finds
abbrev pub IsSecond : Found → Second → Type 0
IsSecond (OfSeason dossier verdict) second = IsSeasonSecond dossier second
IsSecond (OfSpecial dossier rounds special verdict) second = IsSpecialSecond dossier special second

-- the verdicts of what is found are those of its papers
abbrev pub AreVerdicts : Found → Type 0
AreVerdicts (OfSeason dossier verdict) = HasVerdict dossier verdict
AreVerdicts (OfSpecial dossier rounds special verdict) = HasVerdict dossier (Sound rounds) × HasVerdict special verdict

-- ---- the output

-- the line of a second verdict
abbrev pub second_line : Second → List ℕ
second_line AllBest = codes "best\n"
second_line (NotBestRound round cand) = codes "not best round " ++ decimal round ++ codes " " ++ decimal cand.0 ++ codes "\n"
second_line (NotBestSpecial cand) = codes "not best special " ++ decimal cand.0 ++ codes "\n"

-- What is found has this second verdict: no clause is broken, and these are the two lines.
pub record HasSecond (found : Found) (second : Second) (output : List ℕ) : Type 0 where
  pub sound : says_sound (verdict_of found) ≡ true
  pub is : IsSecond found second
  pub lines : output ≡ found_verdict_line found ++ second_line second

-- an audit finds something of the bytes with this second verdict, and these are its lines
abbrev pub AreBestLines : List ℕ → Second → List ℕ → Type 0
AreBestLines bytes second output = (found : Found) × IsFound bytes found × HasSecond found second output

-- no clause is broken and every round is the best one, and these are the lines that say so
abbrev pub IsBestOutput : List ℕ → List ℕ → Type 0
IsBestOutput bytes output = AreBestLines bytes AllBest output

-- a second verdict names a round that is not the best one
abbrev pub IsShort : Second → Type 0
IsShort AllBest = ⊥
IsShort (NotBestRound round cand) = Unit {0}
IsShort (NotBestSpecial cand) = Unit {0}

-- no clause is broken, and these are the lines that name the first round that is not the best one
abbrev pub IsNotBestOutput : List ℕ → List ℕ → Type 0
IsNotBestOutput bytes output = (second : Second) × IsShort second × AreBestLines bytes second output

-- the output of a dossier that falls short: of a broken clause, or of a round that is not the best one
abbrev pub IsShortOutput : List ℕ → List ℕ → Type 0
IsShortOutput bytes output = IsBrokenOutput bytes output ⊎ IsNotBestOutput bytes output

-- the bytes are a dossier, and this is the output of `audit best`
abbrev pub IsBestAuditOutput : List ℕ → List ℕ → Type 0
IsBestAuditOutput bytes output = IsBestOutput bytes output ⊎ IsShortOutput bytes output

-- what `audit best` answers
abbrev pub best_answers : Answers
best_answers = record { IsInput = AreDossier; IsFaulty = AreFaultyDossier; IsOutput = IsBestAuditOutput; IsFaultLine = IsDossierFaultLine }

-- Bytes have one output of `audit best`: one of its kinds, and one of each kind.
pub record HaveOneBest (bytes : List ℕ) : Type 0 where
  pub one_best : (output other : List ℕ) → IsBestOutput bytes output → IsBestOutput bytes other → output ≡ other
  pub one_short : (output other : List ℕ) → IsShortOutput bytes output → IsShortOutput bytes other → output ≡ other
  pub one_kind : (output other : List ℕ) → IsBestOutput bytes output → IsShortOutput bytes other → ⊥

-- ---- the answer

-- the answer tells a second verdict behind the line of a sound one
abbrev pub TellsSecond : List ℕ → Second → Audited → Type 0
TellsSecond line AllBest (SoundText text) = text ≡ line ++ second_line AllBest
TellsSecond line AllBest (BrokenText text) = ⊥
TellsSecond line (NotBestRound round cand) (SoundText text) = ⊥
TellsSecond line (NotBestRound round cand) (BrokenText text) = text ≡ line ++ second_line (NotBestRound round cand)
TellsSecond line (NotBestSpecial cand) (SoundText text) = ⊥
TellsSecond line (NotBestSpecial cand) (BrokenText text) = text ≡ line ++ second_line (NotBestSpecial cand)

-- the answer tells what `audit best` finds
abbrev pub IsBestAnswerTo : Found → Audited → Type 0
IsBestAnswerTo found (SoundText text) = HasSecond found AllBest text
IsBestAnswerTo found (BrokenText text) = ((says_sound (verdict_of found) ≡ false) × (text ≡ found_verdict_line found)) ⊎ ((second : Second) × IsShort second × HasSecond found second text)

-- the answer to the bytes that were left
abbrev pub IsBestOfLeft : Option (List ℕ) → Audited → Type 0
IsBestOfLeft left (SoundText text) = HasLeft IsBestOutput left text
IsBestOfLeft left (BrokenText text) = HasLeft IsShortOutput left text

-- the whole text that goes with each status of the command, for the bytes that the source had left
abbrev pub IsBestText : Option (List ℕ) → Status → List ℕ → Type 0
IsBestText left Done text = HasLeft IsBestOutput left text
IsBestText left BrokenStatus text = HasLeft IsShortOutput left text
IsBestText left BadInput text = HasLeft IsDossierFaultLine left text
IsBestText left ReadFault text = text ≡ read_line
IsBestText left OutOfMemory text = text ≡ memory_line
IsBestText left other text = ⊥

-- How `audit best` ends, by the source and the sink as it finds them and leaves them.
pub record AuditsBest (old new : Streams) (status : Status) : Type 0 where
  -- what is written is the text of the status for the bytes that the source had left, or a prefix of a text if the sink failed
  pub written : (output : List ℕ) × Appends output old.sink.written new.sink.written × Writes (IsBestText old.source.left) status output
  pub read_whole : EndsWell status → IsAtEnd new.source.left
  pub blamed : BlamesStreams status old new
  -- if neither failed, a dossier has its verdicts, and anything else is refused
  pub complete : Tells AreDossier old.source.left → Held old new → EndedWith EndsWell status
  pub refused : Tells AreFaultyDossier old.source.left → Held old new → EndedWith (λ end. end ≡ BadInput) status
