-- The command `run`: its input is a season bundle with requests or without. An office begins over the given keeper.
-- The output is the replies to the requests, one after another.
use Rattle.std.specs.Prelude.{◌≡◌, ◌≢◌, ◌⊎◌, ℕ, true, false, List, Option, codes}
use Rattle.office_asks.specs.declared.ask.Request.{Request}
use Rattle.season_file.specs.declared.season.Season.{Season}
use Rattle.kept_rows.specs.Tables.{Tables, NoSeason, Records, AreTold, IsFound, still}
use Rattle.season_facts.specs.Season.{facts_of}
use Rattle.office_moves.specs.State.{opening}
use Rattle.round_cut.specs.declared.fault.BeginFault.{BeginFault}
use Rattle.round_cut.specs.declared.fault.BeginFault.TheVariants.{NotEmpty, KeeperFault as NoKeeper, OutOfMemory as NoMemory}
use Rattle.office_base.specs.Outside.{IsAtEnd, Rose}
use Rattle.command_answers.specs.Answers.{Tells}
use Rattle.season_commands.specs.Check.{IsLeftBundle, bundle_answers}
use Rattle.office_base.specs.Visible.{Readable}
use Rattle.season_commands.specs.Outside.{BlamesOffice, BlamesSource, EndsWith, Held, Outside, held}
use Rattle.season_commands.specs.Office.{EndsOffice}
use Rattle.office_base.specs.FaultLines.{memory_line}
use Rattle.command_answers.specs.Writes.{IsTextOf, Writes, keeper_line}
use Rattle.command_answers.specs.declared.status.Status.{Status}
use Rattle.command_answers.specs.declared.status.Status.TheVariants.{Ok as Done, BadInput, ReadFault, KeeperFault, OutOfMemory}

abbrev pub not_empty_line : List ℕ
not_empty_line = codes "fault: keeper holds a season\n"

-- ---- where no office begins

-- the whole text that goes with each status, by the visible tables
abbrev pub IsUnbegunText : Tables → Status → List ℕ → Type 0
IsUnbegunText tables BadInput text = IsFound true tables × (text ≡ not_empty_line)
IsUnbegunText tables KeeperFault text = text ≡ keeper_line
IsUnbegunText tables OutOfMemory text = text ≡ memory_line
IsUnbegunText tables other text = ⊥

-- the status of why no office began, and the text that goes with it
abbrev pub begin_status : BeginFault → Status
begin_status NotEmpty = BadInput
begin_status NoKeeper = KeeperFault
begin_status NoMemory = OutOfMemory

abbrev pub begin_text : BeginFault → List ℕ
begin_text NotEmpty = not_empty_line
begin_text NoKeeper = keeper_line
begin_text NoMemory = memory_line

-- ---- all together

-- how a season that was read ends: no office begins, and the tables are unchanged;
-- or the keeper held no season, and an office answers its requests.
-- What the keeper held is visible if the tables are visible both before and after.
abbrev pub EndsSeason : Season → List Request → Tables → Tables → Status → List ℕ → Type 0
EndsSeason season script before after status output = (Writes (IsUnbegunText (still before after)) status output × AreTold before after)
    ⊎ (IsFound false (still before after) × EndsOffice (facts_of season) opening script after status output)

-- how `run` ends: no bundle is read, and the tables are unchanged;
-- or the bytes that were left are a bundle, and its season ends
abbrev pub EndsRun : Option (List ℕ) → Tables → Tables → Status → List ℕ → Type 0
EndsRun left before after status output = (Writes (IsTextOf (bundle_answers true) left) status output × (after ≡ before))
    ⊎ ((season : Season) × (script : List Request) × IsLeftBundle true left season script × EndsSeason season script before after status output)

-- the visible tables have no season
abbrev pub TellsNoSeason : Tables → Type 0
TellsNoSeason NoSeason = Unit {0}
TellsNoSeason other = ⊥

-- the visible tables have a season
abbrev pub TellsSeason : Tables → Type 0
TellsSeason (Records kept) = Unit {0}
TellsSeason other = ⊥

-- ---- what `run` keeps to

-- A season runs over a keeper that holds none.
pub record RunsScript (old new : Outside) (status : Status) : Type 0 where
  pub no_read_fault : status ≢ ReadFault
  pub blamed : BlamesOffice status old new
  -- if neither the sink nor the keeper failed, the requests are answered, unless the keeper holds a season already
  pub complete : TellsNoSeason (held old new) → Held old new → EndsWith Done status
  pub not_empty : TellsSeason (held old new) → Held old new → EndsWith BadInput status

-- What the source gives runs, if it is an input of this kind.
pub record RunsInput (IsInput IsFaulty : List ℕ → Type 0) (source now : Readable) (old new : Outside) (status : Status) : Type 0 where
  pub read_whole : status ≡ Done → IsAtEnd now.left
  pub read_blamed : BlamesSource status source now
  pub blamed : BlamesOffice status old new
  -- if nothing failed: an input without errors is answered, a faulty one is refused,
  -- and so is any input if the keeper holds a season already
  pub complete : Tells IsInput source.left → TellsNoSeason (held old new) → ¬ Rose source.faults now.faults → Held old new → EndsWith Done status
  pub refused : Tells IsFaulty source.left → ¬ Rose source.faults now.faults → ¬ Rose old.write_faults new.write_faults → EndsWith BadInput status
  pub not_empty : TellsSeason (held old new) → ¬ Rose source.faults now.faults → Held old new → EndsWith BadInput status
