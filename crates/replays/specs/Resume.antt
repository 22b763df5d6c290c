-- An office resumes from what a keeper holds.
use Rattle.std.specs.Prelude.{◌≡◌, false, List}
use Rattle.season_file.specs.Laws.{HasFault}
use Rattle.season_file.specs.Season.{IsSeason}
use Rattle.season_file.specs.declared.season.Season.{Season}
use Rattle.keeper_mem.specs.Keeper.{Blames, KeeperView}
use Rattle.kept_rows.specs.Tables.{AreTold, IsFound, IsLoaded, Tables, still}
use Rattle.kept_rows.specs.declared.rows.Kept.{Kept}
use Rattle.office_moves.specs.Facts.{SeasonFacts}
use Rattle.season_facts.specs.Season.{facts_of}
use Rattle.office_moves.specs.History.{IsHistory}
use Rattle.office_moves.specs.Promise.{KeepsItsWord}
use Rattle.office_moves.specs.Stands.{Stand}
use Rattle.office_moves.specs.State.{State}
use Rattle.office_moves.specs.declared.moves.Entry.{Entry}
use Rattle.replays.specs.Acts.{kept_acts}
use Rattle.proceedings.specs.Proceeding.{still_of}
use Rattle.replays.specs.Counted.{AreCounted, counted}
use Rattle.replays.specs.Faults.{IsReplayFault}
use Rattle.replays.specs.Replay.{IsReplayed}
use Rattle.replays.specs.declared.fault.ReplayFault.{ReplayFault}
use Rattle.replays.specs.declared.fault.ReplayFault.TheVariants.{Stray as StrayAnswer, StrayRaise as StrayLift, Differs as SeatsDiffer}
use Rattle.round_cut.specs.Office.{HasRoom, OfficeView}
use Rattle.replays.specs.Unresumed.{fault_of}
use Rattle.replays.specs.declared.resume.Unresumed.{Unresumed}
use Rattle.replays.specs.declared.resume.Unresumed.TheVariants.{NoSeason as NoneKept, Differs as Apart, KeeperFault as KeeperFailed, OutOfMemory as NoMemory}
use Rattle.replays.specs.declared.fault.ResumeFault.{ResumeFault}
use Rattle.replays.specs.declared.fault.ResumeFault.TheVariants.{NoSeason, BadSeason, Stray, StrayRaise, Differs, KeeperFault, OutOfMemory}

-- Records lead to a state of a season:
-- their text reads as the season, and their rows and seats are replayed to the state.
pub record LeadTo (records : Kept) (facts : SeasonFacts) (state : State) : Type 0 where
  pub season : Season
  pub read : IsSeason records.season season
  pub same : facts ≡ facts_of season
  pub replayed : IsReplayed facts records state

-- the records of these tables, or some records if the tables are hidden, lead to a state of a season
abbrev pub IsResumed : Tables → SeasonFacts → State → Type 0
IsResumed tables facts state = (records : Kept) × IsLoaded tables records × LeadTo records facts state

-- the entries are what is kept in these tables, or in some records if the tables are hidden:
-- window after window its raises, its answers and its cut, with the numbers 1, 2, 3
abbrev pub HoldsTheKept : Tables → List Entry → Type 0
HoldsTheKept tables entries = (records : Kept) × IsLoaded tables records × (entries ≡ counted (kept_acts records))

-- the text reads as a season, and the rows and seats have this fault first
abbrev pub HaveReplayFault : Kept → ReplayFault → Type 0
HaveReplayFault records fault = (season : Season) × IsSeason records.season season × IsReplayFault (facts_of season) records fault

-- The records have this fault first: their text is no bundle, or they are not replayed. Memory may run out at any time.
abbrev pub HaveFault : Kept → ResumeFault → Type 0
HaveFault records NoSeason = ⊥
HaveFault records (BadSeason fault) = HasFault false records.season fault
HaveFault records (Stray row) = HaveReplayFault records (StrayAnswer row)
HaveFault records (StrayRaise row) = HaveReplayFault records (StrayLift row)
HaveFault records (Differs round cand one other) = HaveReplayFault records (SeatsDiffer round cand one other)
HaveFault records KeeperFault = ⊥
HaveFault records OutOfMemory = Unit {0}

-- Why an office does not resume from these tables: there is no season, or the records have this fault first.
-- These are the records of the tables, or some records if the tables are hidden.
-- A fault of the keeper has its own clause.
abbrev pub IsResumeFault : Tables → ResumeFault → Type 0
IsResumeFault tables NoSeason = IsFound false tables
IsResumeFault tables KeeperFault = Unit {0}
IsResumeFault tables OutOfMemory = Unit {0}
IsResumeFault tables fault = (records : Kept) × IsLoaded tables records × HaveFault records fault

-- ---- with the season whose codes a difference is reported in

-- the season of a difference is one that the text reads as, and the rows and seats have this fault first
abbrev pub HaveDifference : Kept → Season → ReplayFault → Type 0
HaveDifference records season fault = (spelt : Season) × IsSeason records.season spelt × IsReplayFault (facts_of spelt) records fault × (facts_of season ≡ facts_of spelt)

-- the records have this fault first
abbrev pub HaveStopped : Kept → Unresumed → Type 0
HaveStopped records (Apart round cand one other season) = HaveDifference records season (SeatsDiffer round cand one other)
HaveStopped records stopped = HaveFault records (fault_of stopped)

-- why an office does not resume from these tables
abbrev pub IsUnresumed : Tables → Unresumed → Type 0
IsUnresumed tables NoneKept = IsFound false tables
IsUnresumed tables KeeperFailed = Unit {0}
IsUnresumed tables NoMemory = Unit {0}
IsUnresumed tables stopped = (records : Kept) × IsLoaded tables records × HaveStopped records stopped

-- ---- an office that is opened again

module _ {K : Type 0} (seen : K → KeeperView) where
  -- An office resumes from the records of a keeper, with room for all who are still in.
  -- The tables are unchanged, and the keeper did not fail.
  pub record GoesOn (keeper : K) (office : OfficeView K) : Type 0 where
    pub resumed : IsResumed (seen office.keeper).tables office.season office.state
    pub entries : HoldsTheKept (seen office.keeper).tables office.entries
    pub counted : AreCounted office.entries
    pub history : IsHistory office.season office.entries office.state
    pub word : KeepsItsWord office.season office.state
    pub still : office.still ≡ still_of office.season office.state
    pub stands : Stand office.season office.state (seen office.keeper).tables
    pub told : AreTold (seen keeper).tables (seen office.keeper).tables
    pub blamed : Blames ⊥ (seen keeper) (seen office.keeper)
    pub spare : HasRoom (seen office.keeper).holds_room office.still (seen office.keeper).spare
