-- What the program keeps to under a command, in addition to what it writes and which objects it blames.
use Rattle.std.specs.Prelude.{◌≡◌, ◌⊎◌, ◌+◌, ℕ, List, sum}
use Rattle.kept_rows.specs.Tables.{still, Tables}
use Rattle.office_base.specs.Outside.{Appends, IsAtEnd, Rose}
use Rattle.command_answers.specs.Answers.{Tells}
use Rattle.command_answers.specs.declared.status.Status.{Status}
use Rattle.command_answers.specs.declared.status.Status.TheVariants.{Ok as Done, BadInput, OutOfMemory, Usage, Differs as DiffersStatus}
use Rattle.command_words.specs.declared.words.Command.{Command}
use Rattle.command_words.specs.declared.words.Command.TheVariants.{Resume}
use Rattle.command_words.specs.Words.{Spell, SpellNothing, service_of}
use Rattle.command_words.specs.declared.words.Store.{Store}
use Rattle.resume_command.specs.Resume.{IsFaultyScript, TellsNoOffice, TellsRowFault, TellsSound, TellsTextFault}
use Rattle.season_commands.specs.Run.{TellsNoSeason, TellsSeason}
use Rattle.special_command.specs.Special.{AreFaultyKeptLists, AreKeptLists}
use Rattle.office_commands.specs.Blames.{Blames}
use Rattle.office_commands.specs.Call.{Call}
use Rattle.office_commands.specs.Named.{connections_named, doors_named}
use Rattle.office_commands.specs.Program.{BeginsOffice, Ends, IsReady, IsWritten, MakesSpecial, ReadsSource, Resumes, Serves, SpellServing, Succeeds, TellsFault, TellsInput}

-- the source is unchanged
abbrev pub IsSpared : Call → Type 0
IsSpared call = (call.still_left ≡ call.left) × (call.now_counts.source ≡ call.counts.source)

-- the tables before, if they are visible both before and after
abbrev pub held : Call → Tables
held call = still call.tables call.now_tables

-- the source failed, the sink, the keeper
abbrev pub ReadFailed : Call → Type 0
ReadFailed call = Rose call.counts.source call.now_counts.source

abbrev pub WriteFailed : Call → Type 0
WriteFailed call = Rose call.counts.sink call.now_counts.sink

abbrev pub KeepFailed : Call → Type 0
KeepFailed call = Rose call.counts.keeper call.now_counts.keeper

-- that many connections were taken at the doors in all
abbrev pub HaveCome : ℕ → Call → Type 0
HaveCome n call = sum call.coming ≡ n + sum call.still_coming

-- it ends with this status, or memory ran out
abbrev pub EndsWith : Status → Status → Type 0
EndsWith wanted status = (status ≡ wanted) ⊎ (status ≡ OutOfMemory)

-- What a command leaves alone: the source if it reads none,
-- or if the records of the keeper come first and have a fault;
-- the keeper if the command has no office;
-- the doors if it serves none.
-- If a service ends well, no connection is still to come. If the doors were those that the words name,
-- as many connections were taken as the words name.
pub record Spares (command : Command) (call : Call) (status : Status) : Type 0 where
  pub read_whole : ReadsSource command → Succeeds command status → IsAtEnd call.still_left
  pub spared : ¬ ReadsSource command → IsSpared call
  pub untouched : ¬ BeginsOffice command → ¬ Resumes command → call.same_keeper
  pub spared_doors : ¬ Serves command → call.doors.spared
  pub all_served : Serves command → status ≡ Done → call.all_came
  pub all_named : Serves command → status ≡ Done → call.coming ≡ doors_named (service_of command) → HaveCome (connections_named (service_of command)) call
  pub records_first : Resumes command → (status ≡ DiffersStatus) ⊎ TellsNoOffice (held call) → IsSpared call

-- If nothing failed, the status is the one that the bytes and the tables call for, or memory ran out.
pub record Answers (command : Command) (call : Call) (status : Status) : Type 0 where
  pub complete : TellsInput command call.left → IsReady command (held call) → ¬ ReadFailed call → ¬ WriteFailed call → ¬ KeepFailed call → ¬ call.door_failed → Succeeds command status ⊎ (status ≡ OutOfMemory)
  pub refused : TellsFault command call.left → ¬ ReadFailed call → ¬ WriteFailed call → EndsWith BadInput status
  -- an office begins anew only over a keeper that holds none
  pub not_empty : BeginsOffice command → TellsSeason (held call) → ¬ ReadFailed call → ¬ WriteFailed call → ¬ KeepFailed call → EndsWith BadInput status
  -- the records of the keeper come first
  pub none_kept : Resumes command → TellsNoSeason (held call) → ¬ WriteFailed call → ¬ KeepFailed call → EndsWith BadInput status
  pub kept_text : Resumes command → TellsTextFault (held call) → ¬ WriteFailed call → ¬ KeepFailed call → EndsWith BadInput status
  pub differs : Resumes command → TellsRowFault (held call) → ¬ WriteFailed call → ¬ KeepFailed call → EndsWith DiffersStatus status
  -- under `resume` and `special` what is read comes after sound records
  pub unasked : (store : Store) → command ≡ Resume store → Tells IsFaultyScript call.left → TellsSound (held call) → ¬ ReadFailed call → ¬ WriteFailed call → ¬ KeepFailed call → EndsWith BadInput status
  pub special_lists : MakesSpecial command → Tells (AreKeptLists (held call)) call.left → TellsSound (held call) → ¬ ReadFailed call → ¬ WriteFailed call → ¬ KeepFailed call → EndsWith Done status
  pub special_refused : MakesSpecial command → Tells (AreFaultyKeptLists (held call)) call.left → TellsSound (held call) → ¬ ReadFailed call → ¬ WriteFailed call → ¬ KeepFailed call → EndsWith BadInput status

-- what is written, with the status, by the command
abbrev pub WritesOf : Command → Call → Status → Type 0
WritesOf command call status = (output : List ℕ) × Appends output call.written call.now_written × Ends command call.left call.tables call.now_tables call.doors status output

-- and by the words
abbrev pub Writes : List (List ℕ) → Call → Status → Type 0
Writes words call status = (output : List ℕ) × Appends output call.written call.now_written × IsWritten words call.left call.tables call.now_tables call.doors status output

-- Words that spell no command leave the source and the keeper unchanged, and are refused.
pub record RefusesWords (call : Call) (status : Status) : Type 0 where
  pub unread : IsSpared call
  pub unkept : call.same_keeper
  pub usage : ¬ WriteFailed call → EndsWith Usage status

-- which objects the status blames
abbrev pub IsBlamed : Type 0 → Call → Status → Type 0
IsBlamed serves call status = Blames serves status call.counts call.now_counts

-- What the program does under a command.
pub record Runs (command : Command) (call : Call) (status : Status) : Type 0 where
  -- what it writes, and what then holds of the tables and the doors
  pub written : WritesOf command call status
  pub spares : Spares command call status
  pub answers : Answers command call status
  pub blamed : IsBlamed (Serves command) call status

-- What the program does with words.
pub record RunsWords (words : List (List ℕ)) (call : Call) (status : Status) : Type 0 where
  pub written : Writes words call status
  pub spares : (command : Command) → Spell words command → Spares command call status
  pub answers : (command : Command) → Spell words command → Answers command call status
  pub usage : SpellNothing words → RefusesWords call status
  pub spared_doors : ¬ SpellServing words → call.doors.spared
  pub blamed : IsBlamed (SpellServing words) call status
