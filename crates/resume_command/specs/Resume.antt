-- The command `resume`: an office resumes from what the keeper holds.
-- The input is requests alone, and the output is the replies to them.
use Rattle.std.specs.Prelude.{◌≡◌, ◌≢◌, ◌<◌, ◌≤◌, ◌⊎◌, ℕ, false, List, Option, Result, Ok, Err, codes, length}
use Rattle.std.specs.Str.{IsUtf8}
use Rattle.office_base.specs.Limits.{most_bundle_bytes}
use Rattle.office_base.specs.Outside.{Appends, AreLeft, Rose}
use Rattle.office_base.specs.Visible.{Readable}
use Rattle.office_asks.specs.declared.ask.Request.{Request}
use Rattle.office_text.specs.Lines.{skip_mark}
use Rattle.section_rows.specs.Rows.{rows_of}
use Rattle.request_rows.specs.Requests.{script_of}
use Rattle.season_file.specs.Laws.{HasFault}
use Rattle.season_file.specs.Season.{IsSeason, IsText}
use Rattle.season_file.specs.declared.fault.SeasonFault.{SeasonFault}
use Rattle.season_file.specs.declared.fault.SeasonFault.TheVariants.{TooLong, NotUtf8, BadRequest}
use Rattle.season_file.specs.declared.season.Season.{Season}
use Rattle.season_texts.specs.Texts.{fault_line}
use Rattle.kept_rows.specs.Tables.{Tables, Records, AreTold, IsFound, IsLoaded, still}
use Rattle.kept_rows.specs.declared.rows.Kept.{Kept}
use Rattle.office_moves.specs.Facts.{SeasonFacts}
use Rattle.season_facts.specs.Season.{facts_of}
use Rattle.office_moves.specs.State.{State}
use Rattle.replays.specs.Faults.{IsReplayFault}
use Rattle.replays.specs.declared.fault.ReplayFault.{ReplayFault}
use Rattle.replays.specs.declared.fault.ReplayFault.TheVariants.{OutOfMemory as NoMemory}
use Rattle.replays.specs.Resume.{IsResumed}
use Rattle.replays.specs.declared.resume.Unresumed.{Unresumed}
use Rattle.replays.specs.declared.resume.Unresumed.TheVariants.{NoSeason as NoneKept, BadSeason, Stray, StrayRaise, Differs as SeatsDiffer, KeeperFault as KeeperFailed, OutOfMemory as NoMemoryToResume}
use Rattle.command_answers.specs.Answers.{Answers, Tells}
use Rattle.office_base.specs.FaultLines.{memory_line}
use Rattle.command_answers.specs.Writes.{IsTextOf, Writes, keeper_line}
use Rattle.command_answers.specs.declared.status.Status.{Status}
use Rattle.command_answers.specs.declared.status.Status.TheVariants.{Ok as Done, BadInput, ReadFault, KeeperFault, OutOfMemory, DoorFault, Differs}
use Rattle.season_commands.specs.Check.{IsBundleFaultLine, IsFaultyBundle}
use Rattle.season_commands.specs.Office.{EndsOffice}
use Rattle.season_commands.specs.Outside.{BlamesOffice, EndsWith, Held, Outside, held}
use Rattle.season_commands.specs.Run.{TellsNoSeason}
use Rattle.resume_command.specs.Stray.{replay_line}

abbrev pub no_season_line : List ℕ
no_season_line = codes "fault: keeper holds no season\n"

-- ---- the input

-- the bytes are requests without faults
abbrev pub AreRequests : List ℕ → List Request → Type 0
AreRequests bytes script = IsText bytes × (script_of (rows_of (skip_mark bytes)) ≡ Ok script)

-- the bytes that were left are requests without faults
abbrev pub AreLeftRequests : Option (List ℕ) → List Request → Type 0
AreLeftRequests left script = (bytes : List ℕ) × AreLeft bytes left × AreRequests bytes script

-- the bytes have this fault as requests
abbrev pub HaveRequestFault : List ℕ → SeasonFault → Type 0
HaveRequestFault bytes TooLong = most_bundle_bytes < length bytes
HaveRequestFault bytes NotUtf8 = (length bytes ≤ most_bundle_bytes) × (IsUtf8 bytes → ⊥)
HaveRequestFault bytes (BadRequest row) = IsText bytes × (script_of (rows_of (skip_mark bytes)) ≡ Err row)
HaveRequestFault bytes fault = ⊥

-- the bytes have a fault as requests, and this is its line
abbrev pub IsRequestFaultLine : List ℕ → List ℕ → Type 0
IsRequestFaultLine bytes line = (fault : SeasonFault) × HaveRequestFault bytes fault × (line ≡ fault_line fault)

-- some requests, and some fault
abbrev pub IsScript : List ℕ → Type 0
IsScript bytes = (script : List Request) × AreRequests bytes script

abbrev pub IsFaultyScript : List ℕ → Type 0
IsFaultyScript bytes = (fault : SeasonFault) × HaveRequestFault bytes fault

-- the answers to requests: their replies are not one text
abbrev pub script_answers : Answers
script_answers = record { IsInput = IsScript; IsFaulty = IsFaultyScript; IsOutput = λ bytes output. ⊥; IsFaultLine = IsRequestFaultLine }

-- ---- the records

-- the records of a season do not replay, and this is the line of their fault
abbrev pub IsReplayFaultLine : Kept → List ℕ → Type 0
IsReplayFaultLine records line = (season : Season) × (fault : ReplayFault) × IsSeason records.season season × IsReplayFault (facts_of season) records fault
    × (fault ≢ NoMemory) × (line ≡ replay_line season.matrix fault)

-- there is no season, or the text that is kept is no bundle, and this is the line of that
abbrev pub IsKeptFaultLine : Tables → List ℕ → Type 0
IsKeptFaultLine tables line = (IsFound false tables × (line ≡ no_season_line)) ⊎ ((records : Kept) × IsLoaded tables records × IsBundleFaultLine false records.season line)

-- ---- how the command ends

-- the whole text that goes with each status if no office resumes, by the visible tables
abbrev pub IsUnresumedText : Tables → Status → List ℕ → Type 0
IsUnresumedText tables BadInput text = IsKeptFaultLine tables text
IsUnresumedText tables KeeperFault text = text ≡ keeper_line
IsUnresumedText tables OutOfMemory text = text ≡ memory_line
IsUnresumedText tables Differs text = (records : Kept) × IsLoaded tables records × IsReplayFaultLine records text
IsUnresumedText tables other text = ⊥

-- how a command ends if no office resumes: the tables are unchanged.
-- What was kept is visible if the tables are visible both before and after.
abbrev pub EndsUnresumed : Tables → Tables → Status → List ℕ → Type 0
EndsUnresumed before after status output = Writes (IsUnresumedText (still before after)) status output × AreTold before after

-- how an office that resumed ends: no requests are read, and the tables are unchanged;
-- or they are answered from its state
abbrev pub EndsAsked : SeasonFacts → State → Option (List ℕ) → Tables → Tables → Status → List ℕ → Type 0
EndsAsked facts start left before after status output = (Writes (IsTextOf script_answers left) status output × AreTold before after)
    ⊎ ((script : List Request) × AreLeftRequests left script × EndsOffice facts start script after status output)

-- how `resume` ends: no office resumes; or the records lead to the state of a season, and an office resumes from it
abbrev pub EndsResume : Option (List ℕ) → Tables → Tables → Status → List ℕ → Type 0
EndsResume left before after status output = EndsUnresumed before after status output
    ⊎ ((facts : SeasonFacts) × (start : State) × IsResumed (still before after) facts start × EndsAsked facts start left before after status output)

-- the records have no fault: their text is a bundle, and they replay
pub record HaveNoFault (records : Kept) : Type 0 where
  pub text : (fault : SeasonFault) → HasFault false records.season fault → ⊥
  pub rows : (season : Season) (fault : ReplayFault) → IsSeason records.season season → IsReplayFault (facts_of season) records fault → fault ≡ NoMemory

-- the tables are visible records that have no fault
abbrev pub TellsSound : Tables → Type 0
TellsSound (Records records) = HaveNoFault records
TellsSound other = ⊥

-- the tables are visible records whose text is no bundle
abbrev pub TellsTextFault : Tables → Type 0
TellsTextFault (Records records) = IsFaultyBundle false records.season
TellsTextFault other = ⊥

-- The text of the records is a bundle, and of each season that the text spells a row or a seat of theirs has a fault.
pub record HaveRowFault (records : Kept) : Type 0 where
  pub season : Season
  pub read : IsSeason records.season season
  pub faulty : (spelt : Season) → IsSeason records.season spelt → (fault : ReplayFault) × (fault ≢ NoMemory) × IsReplayFault (facts_of spelt) records fault

-- the tables are visible records that have such a fault
abbrev pub TellsRowFault : Tables → Type 0
TellsRowFault (Records records) = HaveRowFault records
TellsRowFault other = ⊥

-- the visible tables show that no office can resume: they have no season, or records with a fault
abbrev pub TellsNoOffice : Tables → Type 0
TellsNoOffice tables = TellsNoSeason tables ⊎ (TellsTextFault tables ⊎ TellsRowFault tables)

-- the status that reports why no office resumes
abbrev pub unresumed_status : Unresumed → Status
unresumed_status NoneKept = BadInput
unresumed_status (BadSeason fault) = BadInput
unresumed_status (Stray row) = Differs
unresumed_status (StrayRaise row) = Differs
unresumed_status (SeatsDiffer round cand one other season) = Differs
unresumed_status KeeperFailed = KeeperFault
unresumed_status NoMemoryToResume = OutOfMemory

-- the status of a line that was made, or of memory running out
abbrev pub made_status : {E : Type 0} → Status → Result (List ℕ) E → Status
made_status status (Ok line) = status
made_status status (Err none) = OutOfMemory

abbrev pub made_text : {E : Type 0} → Result (List ℕ) E → List ℕ
made_text (Ok line) = line
made_text (Err none) = memory_line

-- ---- what `resume` keeps to

-- The records of the keeper are judged before anything is read.
-- If neither the sink nor the keeper failed, records that no office resumes from are refused.
pub record JudgesRecords (old new : Outside) (status : Status) : Type 0 where
  pub none_kept : TellsNoSeason (held old new) → Held old new → EndsWith BadInput status
  pub kept_text : TellsTextFault (held old new) → Held old new → EndsWith BadInput status
  pub differs : TellsRowFault (held old new) → Held old new → EndsWith Differs status

-- No office resumes, and this status reports it. If neither the sink nor the keeper failed, it says what is wrong with
-- the records, and of sound records that memory ran out.
pub record ReportsUnresumed (old new : Outside) (status : Status) : Type 0 where
  pub written : (output : List ℕ) × Appends output old.written new.written × EndsUnresumed old.tables new.tables status output
  pub never : (status ≢ Done) × (status ≢ ReadFault) × (status ≢ DoorFault)
  pub blamed : BlamesOffice status old new
  pub records : JudgesRecords old new status
  pub sound : TellsSound (held old new) → Held old new → status ≡ OutOfMemory

-- What comes after sound records: if nothing failed, an input without errors is answered, and a faulty one is refused.
pub record AnswersAfter (IsInput IsFaulty : List ℕ → Type 0) (source now : Readable) (old new : Outside) (status : Status) : Type 0 where
  pub complete : Tells IsInput source.left → TellsSound (held old new) → ¬ Rose source.faults now.faults → Held old new → EndsWith Done status
  pub refused : Tells IsFaulty source.left → TellsSound (held old new) → ¬ Rose source.faults now.faults → Held old new → EndsWith BadInput status
