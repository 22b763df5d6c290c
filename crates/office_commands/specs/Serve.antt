-- The command `serve`: an office begins with a season that is read, or resumes from what the keeper holds, and is
-- served at doors. Its output is how far the office is at the end, and how many entries its history has.
use Rattle.std.specs.Prelude.{◌≡◌, ◌⊎◌, ℕ, Bool, true, false, List, [], ◌++◌, Option, Result, Ok, Err, codes, length}
use Rattle.std.specs.Fmt.{decimal}
use Rattle.office_base.specs.FaultLines.{memory_line}
use Rattle.office_base.specs.Outside.{Rose}
use Rattle.office_base.specs.Visible.{Readable}
use Rattle.office_asks.specs.declared.ask.Request.{Request}
use Rattle.season_file.specs.declared.season.Season.{Season}
use Rattle.kept_rows.specs.Tables.{Tables, AreTold, IsFound, still}
use Rattle.office_moves.specs.Facts.{SeasonFacts}
use Rattle.office_moves.specs.History.{IsHistory}
use Rattle.office_moves.specs.Promise.{KeepsItsWord}
use Rattle.season_facts.specs.Season.{facts_of}
use Rattle.office_moves.specs.Stands.{Stand}
use Rattle.office_moves.specs.State.{State}
use Rattle.office_moves.specs.declared.moves.Entry.{Entry}
use Rattle.reply_texts.specs.Replies.{state_line}
use Rattle.replays.specs.Resume.{HoldsTheKept, IsResumed}
use Rattle.season_commands.specs.Check.{IsBundle, IsFaultyBundle, IsLeftBundle, bundle_answers}
use Rattle.resume_command.specs.Resume.{EndsUnresumed}
use Rattle.season_commands.specs.Outside.{EndsWith, Held, Outside, held}
use Rattle.season_commands.specs.Run.{IsUnbegunText, TellsNoSeason, TellsSeason}
use Rattle.command_answers.specs.Answers.{Tells}
use Rattle.command_answers.specs.Writes.{IsTextOf, Writes}
use Rattle.command_answers.specs.declared.status.Status.{Status}
use Rattle.command_answers.specs.declared.status.Status.TheVariants.{Ok as Done, BadInput, OutOfMemory}
use Rattle.http_wire.specs.declared.faults.Fault.{Fault}
use Rattle.office_commands.specs.Doors.{Doors}
use Rattle.office_commands.specs.Ending.{end_status, lost_line, served_status}

-- ---- the output

abbrev pub door_line : Bool → List ℕ
door_line true = codes "fault: door\n"
door_line false = []

-- how far the office is, how many entries its history has, and whether a door failed
abbrev pub served_text : SeasonFacts → State → ℕ → Bool → List ℕ
served_text facts state entries failed =
    state_line state.now facts.rounds (length state.rounds) ++ codes "entries " ++ decimal entries ++ codes "\n" ++ door_line failed

-- ---- an office at its doors

-- An office is at the end of this history: the history leads to the state, in which the office keeps its word, and
-- which the tables represent.
pub record IsOfficeAfter (facts : SeasonFacts) (history : List Entry) (tables : Tables) (state : State) : Type 0 where
  pub leads : IsHistory facts history state
  pub promise : KeepsItsWord facts state
  pub stands : Stand facts state tables

-- the whole text that goes with each status if an office is at the end of a history, and a door failed or none;
-- if memory runs out, the text does not say how far the office is
abbrev pub IsEndText : SeasonFacts → List Entry → Tables → Bool → Status → List ℕ → Type 0
IsEndText facts history tables failed status text = (state : State) × IsOfficeAfter facts history tables state
    × (((status ≡ served_status failed) × (text ≡ served_text facts state (length history) failed)) ⊎ ((status ≡ OutOfMemory) × (text ≡ memory_line)))

-- what waited at the end could not be kept, and the text does not say how far the office is
abbrev pub IsLostText : Fault → Status → List ℕ → Type 0
IsLostText fault status text = (status ≡ end_status (Err fault) false) × (text ≡ lost_line fault)

-- the whole text that goes with each status, whether what waited at the end could be kept or not
abbrev pub IsLastText : Result (Unit {0}) Fault → SeasonFacts → List Entry → Tables → Bool → Status → List ℕ → Type 0
IsLastText (Ok done) facts history tables failed status text = IsEndText facts history tables failed status text
IsLastText (Err fault) facts history tables failed status text = IsLostText fault status text

-- The office of the season was served at the doors from the history `held` on, to the end of another one, with the text
-- that goes with the status.
abbrev pub HasServed : SeasonFacts → List Entry → Tables → Doors → Status → List ℕ → Type 0
HasServed facts held tables doors status text = (history : List Entry) × (failed : Bool) × doors.served facts held history failed × IsEndText facts history tables failed status text

-- The office was served so, but what waited at the end could not be kept: the keeper failed, or memory ran out.
abbrev pub HasLost : SeasonFacts → List Entry → Doors → Status → List ℕ → Type 0
HasLost facts held doors status text = (history : List Entry) × (failed : Bool) × (fault : Fault) × doors.lost facts held history failed × IsLostText fault status text

-- The office was not served, because memory ran out. The doors are unchanged, and the tables represent the state to
-- which the history `held` leads.
abbrev pub HasSpared : SeasonFacts → List Entry → Tables → Doors → Status → List ℕ → Type 0
HasSpared facts held tables doors status text = ((state : State) × IsHistory facts held state × Stand facts state tables) × doors.spared × (status ≡ OutOfMemory) × (text ≡ memory_line)

-- the whole text that goes with each status if an office was at its doors with the history `held`
abbrev pub IsServedText : SeasonFacts → List Entry → Tables → Doors → Status → List ℕ → Type 0
IsServedText facts held tables doors status text = HasServed facts held tables doors status text ⊎ (HasSpared facts held tables doors status text ⊎ HasLost facts held doors status text)

-- how an office ends that was at its doors with the history `held`
abbrev pub EndsServed : SeasonFacts → List Entry → Tables → Doors → Status → List ℕ → Type 0
EndsServed facts held tables doors status output = Writes (IsServedText facts held tables doors) status output

-- ---- all together

-- how a season that was read ends: no office begins, and the tables and the doors are unchanged;
-- or the keeper held no season, and an office without entries is served.
-- What the keeper held is visible if the tables are visible both before and after.
abbrev pub EndsBegun : Season → Tables → Tables → Doors → Status → List ℕ → Type 0
EndsBegun season before after doors status output = (Writes (IsUnbegunText (still before after)) status output × AreTold before after × doors.spared)
    ⊎ (IsFound false (still before after) × EndsServed (facts_of season) [] after doors status output)

-- how `serve` with `new` ends: no bundle is read, and the tables and the doors are unchanged;
-- or the bytes that were left are a bundle without requests, and its season ends
abbrev pub EndsServe : Option (List ℕ) → Tables → Tables → Doors → Status → List ℕ → Type 0
EndsServe left before after doors status output = (Writes (IsTextOf (bundle_answers false) left) status output × (after ≡ before) × doors.spared)
    ⊎ ((season : Season) × (script : List Request) × IsLeftBundle false left season script × EndsBegun season before after doors status output)

-- the records of the tables lead to a state of a season, and these are the entries that they hold
abbrev pub IsKept : Tables → SeasonFacts → List Entry → Type 0
IsKept tables facts held = (start : State) × IsResumed tables facts start × HoldsTheKept tables held × IsHistory facts held start

-- how `serve` with `kept` ends: no office resumes, and the tables and the doors are unchanged;
-- or the office of the records is served from the entries that they hold.
-- What was kept is visible if the tables are visible both before and after.
abbrev pub EndsServeKept : Tables → Tables → Doors → Status → List ℕ → Type 0
EndsServeKept before after doors status output = (EndsUnresumed before after status output × doors.spared)
    ⊎ ((facts : SeasonFacts) × (held : List Entry) × IsKept (still before after) facts held × EndsServed facts held after doors status output)

-- ---- what `serve` keeps to

-- If nothing failed, doors included: a bundle without errors is served, a faulty one is refused, and so is any bundle
-- if the keeper holds a season already.
pub record AnswersBundle (source now : Readable) (old new : Outside) (DoorFailed : Type 0) (status : Status) : Type 0 where
  pub complete : Tells (IsBundle false) source.left → TellsNoSeason (held old new) → ¬ Rose source.faults now.faults → Held old new → ¬ DoorFailed → EndsWith Done status
  pub refused : Tells (IsFaultyBundle false) source.left → ¬ Rose source.faults now.faults → ¬ Rose old.write_faults new.write_faults → EndsWith BadInput status
  pub not_empty : TellsSeason (held old new) → ¬ Rose source.faults now.faults → Held old new → EndsWith BadInput status
