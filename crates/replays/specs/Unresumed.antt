-- Why an office does not resume, with the season whose codes a difference is reported in.
use Rattle.keeper_mem.specs.declared.keeper.KeepFault.{KeepFault}
use Rattle.keeper_mem.specs.declared.keeper.KeepFault.TheVariants.{Failed, OutOfMemory as NoRoom}
use Rattle.replays.specs.declared.fault.ReplayFault.{ReplayFault}
use Rattle.replays.specs.declared.fault.ReplayFault.TheVariants as replay
use Rattle.replays.specs.declared.fault.ResumeFault.{ResumeFault}
use Rattle.replays.specs.declared.fault.ResumeFault.TheVariants as fault
use Rattle.replays.specs.declared.resume.Unresumed.{Unresumed}
use Rattle.replays.specs.declared.resume.Unresumed.TheVariants.{NoSeason, BadSeason, Stray, StrayRaise, Differs, KeeperFault, OutOfMemory}
use Rattle.season_file.specs.declared.fault.SeasonFault.{SeasonFault}
use Rattle.season_file.specs.declared.fault.SeasonFault.TheVariants.{OutOfMemory as NoMemoryToRead}
use Rattle.season_file.specs.declared.season.Season.{Season}

-- the fault alone
abbrev pub fault_of : Unresumed → ResumeFault
fault_of NoSeason = fault.NoSeason
fault_of (BadSeason reading) = fault.BadSeason reading
fault_of (Stray row) = fault.Stray row
fault_of (StrayRaise row) = fault.StrayRaise row
fault_of (Differs round cand one other season) = fault.Differs round cand one other
fault_of KeeperFault = fault.KeeperFault
fault_of OutOfMemory = fault.OutOfMemory

-- a fault of the keeper, of the season's text, and of the replay of the records of a season
abbrev pub load_fault : KeepFault → Unresumed
load_fault Failed = KeeperFault
load_fault NoRoom = OutOfMemory

abbrev pub season_fault : SeasonFault → Unresumed
season_fault NoMemoryToRead = OutOfMemory
season_fault reading = BadSeason reading

abbrev pub replay_fault : ReplayFault → Season → Unresumed
replay_fault (replay.Stray row) season = Stray row
replay_fault (replay.StrayRaise row) season = StrayRaise row
replay_fault (replay.Differs round cand one other) season = Differs round cand one other season
replay_fault replay.OutOfMemory season = OutOfMemory
