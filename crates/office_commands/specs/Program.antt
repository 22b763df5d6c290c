-- What the program writes and how it ends.
use Rattle.std.specs.Prelude.{◌≡◌, ◌⊎◌, ℕ, true, false, List, Option}
use Rattle.kept_rows.specs.Tables.{Tables}
use Rattle.audit_command.specs.Audit.{AreDossier, AreFaultyDossier, EndsWell, IsAuditText}
use Rattle.audit_command.specs.Best.{IsBestText}
use Rattle.command_answers.specs.Answers.{Answers, Tells}
use Rattle.season_commands.specs.Check.{IsBundle, IsFaultyBundle, check_answers}
use Rattle.season_commands.specs.Generated.{EndsGeneratedRun, IsGeneratedText}
use Rattle.resume_command.specs.Resume.{EndsResume, IsScript, TellsSound}
use Rattle.season_commands.specs.Run.{EndsRun, TellsNoSeason}
use Rattle.special_command.specs.Special.{EndsSpecial}
use Rattle.special_command.specs.declared.lists.SpecialPapers.TheVariants.{RoundAlone, WithLists}
use Rattle.units_command.specs.Units.{EndsUnits, IsFaultyUnits, IsUnitsInput}
use Rattle.office_commands.specs.Doors.{Doors}
use Rattle.office_commands.specs.Serve.{EndsServe, EndsServeKept}
use Rattle.step_command.specs.Step.{IsFaultySheet, IsSheet, step_answers}
use Rattle.command_words.specs.Words.{Spell, SpellNothing}
use Rattle.command_answers.specs.Writes.{IsTextOf, IsUsageText, IsWantText, Writes}
use Rattle.command_answers.specs.declared.status.Status.{Status}
use Rattle.command_answers.specs.declared.status.Status.TheVariants.{Ok as Done}
use Rattle.command_words.specs.declared.words.Command.{Command}
use Rattle.command_words.specs.declared.words.Command.TheVariants.{Step, Check, Run, Resume, Units, Special, SpecialLists, Serve, Audit, AuditBest, Generate}
use Rattle.command_words.specs.declared.words.OutKind.TheVariants as out_kind
use Rattle.command_words.specs.declared.words.Start.TheVariants as start

-- what a command that answers with one text writes, with its status; the tables are unchanged
abbrev pub EndsText : Answers → Option (List ℕ) → Tables → Tables → Status → List ℕ → Type 0
EndsText answers left before after status output = Writes (IsTextOf answers left) status output × (after ≡ before)

-- what is written of a generated season, with its status; the tables are unchanged
abbrev pub EndsGenerated : ℕ → ℕ → Tables → Tables → Status → List ℕ → Type 0
EndsGenerated n seed before after status output = Writes (IsGeneratedText n seed) status output × (after ≡ before)

-- what is written of a dossier, with its status; the tables are unchanged
abbrev pub EndsAudit : Option (List ℕ) → Tables → Tables → Status → List ℕ → Type 0
EndsAudit left before after status output = Writes (IsAuditText left) status output × (after ≡ before)

-- what is written of a dossier with its second verdict; the tables are unchanged
abbrev pub EndsAuditBest : Option (List ℕ) → Tables → Tables → Status → List ℕ → Type 0
EndsAuditBest left before after status output = Writes (IsBestText left) status output × (after ≡ before)

-- what a command writes, the status with which it ends, what the tables of the keeper represent,
-- by the visible tables before,
-- and what became of the doors
abbrev pub Ends : Command → Option (List ℕ) → Tables → Tables → Doors → Status → List ℕ → Type 0
Ends Step left before after doors = EndsText step_answers left before after
Ends Check left before after doors = EndsText check_answers left before after
Ends (Run store) left before after doors = EndsRun left before after
Ends (Resume store) left before after doors = EndsResume left before after
Ends (Units store) left before after doors = EndsUnits left before after
Ends (Special store) left before after doors = EndsSpecial RoundAlone left before after
Ends (SpecialLists store) left before after doors = EndsSpecial WithLists left before after
Ends (Serve conns workers start.New port store) left before after doors = EndsServe left before after doors
Ends (Serve conns workers start.Kept port store) left before after doors = EndsServeKept before after doors
Ends Audit left before after doors = EndsAudit left before after
Ends AuditBest left before after doors = EndsAuditBest left before after
Ends (Generate n seed out_kind.Text) left before after doors = EndsGenerated n seed before after
Ends (Generate n seed out_kind.Run) left before after doors = EndsGeneratedRun n seed before after

-- the same for words that spell no command: the tables are unchanged
abbrev pub EndsUsage : Tables → Tables → Status → List ℕ → Type 0
EndsUsage before after status output = Writes IsUsageText status output × (after ≡ before)

-- the same if memory ran out to divide the words: the doors are unchanged too
abbrev pub EndsUnread : Tables → Tables → Doors → Status → List ℕ → Type 0
EndsUnread before after doors status output = Writes IsWantText status output × (after ≡ before) × doors.spared

-- what is written, the status with it, what the tables represent, and what became of the doors, for the words, the
-- bytes that the source had left and the tables before
abbrev pub IsWritten : List (List ℕ) → Option (List ℕ) → Tables → Tables → Doors → Status → List ℕ → Type 0
IsWritten words left before after doors status output = EndsUnread before after doors status output
    ⊎ ((SpellNothing words × EndsUsage before after status output) ⊎ ((command : Command) × Spell words command × Ends command left before after doors status output))

-- the bytes of the source are visible, and they are the command's input without faults;
-- what `special` takes depends on the tables too, and has its own clause
abbrev pub TellsInput : Command → Option (List ℕ) → Type 0
TellsInput Step left = Tells IsSheet left
TellsInput Check left = Tells (IsBundle true) left
TellsInput (Run store) left = Tells (IsBundle true) left
TellsInput (Resume store) left = Tells IsScript left
TellsInput (Units store) left = Tells IsUnitsInput left
TellsInput (Special store) left = ⊥
TellsInput (SpecialLists store) left = ⊥
TellsInput (Serve conns workers start.New port store) left = Tells (IsBundle false) left
TellsInput (Serve conns workers start.Kept port store) left = Unit {0}
TellsInput Audit left = Tells AreDossier left
TellsInput AuditBest left = Tells AreDossier left
TellsInput (Generate n seed out) left = Unit {0}

-- the bytes of the source are visible, and they have a fault as the command's input, which is read before all else;
-- under `resume` and `special` the records are judged first;
-- under `serve` with `kept` there is no input, and a generated season has none either: its own bundle has no fault
abbrev pub TellsFault : Command → Option (List ℕ) → Type 0
TellsFault Step left = Tells IsFaultySheet left
TellsFault Check left = Tells (IsFaultyBundle true) left
TellsFault (Run store) left = Tells (IsFaultyBundle true) left
TellsFault (Units store) left = Tells IsFaultyUnits left
TellsFault (Serve conns workers start.New port store) left = Tells (IsFaultyBundle false) left
TellsFault Audit left = Tells AreFaultyDossier left
TellsFault AuditBest left = Tells AreFaultyDossier left
TellsFault other left = ⊥

-- the keeper is as the command needs it. Under `run`, `units`, `serve` with `new` and `generate` with `run`, the
-- visible tables have no season. Under `resume`, `special` and `serve` with `kept`, they are records without a fault.
-- The others need nothing of a keeper.
abbrev pub IsReady : Command → Tables → Type 0
IsReady (Run store) tables = TellsNoSeason tables
IsReady (Resume store) tables = TellsSound tables
IsReady (Units store) tables = TellsNoSeason tables
IsReady (Special store) tables = TellsSound tables
IsReady (SpecialLists store) tables = TellsSound tables
IsReady (Serve conns workers start.New port store) tables = TellsNoSeason tables
IsReady (Serve conns workers start.Kept port store) tables = TellsSound tables
IsReady (Generate n seed out_kind.Run) tables = TellsNoSeason tables
IsReady other tables = Unit {0}

-- the command begins an office anew
abbrev pub BeginsOffice : Command → Type 0
BeginsOffice (Run store) = Unit {0}
BeginsOffice (Units store) = Unit {0}
BeginsOffice (Serve conns workers start.New port store) = Unit {0}
BeginsOffice (Generate n seed out_kind.Run) = Unit {0}
BeginsOffice other = ⊥

-- the command resumes the office that the keeper holds
abbrev pub Resumes : Command → Type 0
Resumes (Resume store) = Unit {0}
Resumes (Special store) = Unit {0}
Resumes (SpecialLists store) = Unit {0}
Resumes (Serve conns workers start.Kept port store) = Unit {0}
Resumes other = ⊥

-- the command makes a special round
abbrev pub MakesSpecial : Command → Type 0
MakesSpecial (Special store) = Unit {0}
MakesSpecial (SpecialLists store) = Unit {0}
MakesSpecial other = ⊥

-- the command reads the source
abbrev pub ReadsSource : Command → Type 0
ReadsSource (Serve conns workers start.Kept port store) = ⊥
ReadsSource (Generate n seed out) = ⊥
ReadsSource other = Unit {0}

-- the command answers through the doors
abbrev pub Serves : Command → Type 0
Serves (Serve conns workers start port store) = Unit {0}
Serves other = ⊥

-- the words spell such a command
abbrev pub SpellServing : List (List ℕ) → Type 0
SpellServing words = (command : Command) × Spell words command × Serves command

-- the status with which the command ends well: an audit also where a clause is broken or a round is not the best one
abbrev pub Succeeds : Command → Status → Type 0
Succeeds Audit status = EndsWell status
Succeeds AuditBest status = EndsWell status
Succeeds other status = status ≡ Done
