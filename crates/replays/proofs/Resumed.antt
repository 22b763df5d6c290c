-- Why an office does not resume, by its records and its tables.
use Rattle.std.proofs.Common.{◌≡◌, false, refl, sym, subst}
use Rattle.kept_rows.specs.Tables.{AreTold, IsLoaded, Tables, Untold, NoSeason as NoneTold, Records}
use Rattle.keeper_mem.specs.declared.keeper.KeepFault.{KeepFault}
use Rattle.keeper_mem.specs.declared.keeper.KeepFault.TheVariants.{Failed, OutOfMemory as NoRoom}
use Rattle.kept_rows.specs.declared.rows.Kept.{Kept}
use Rattle.season_file.specs.Season.{IsSeason, IsSeasonFault}
use Rattle.season_file.specs.declared.fault.SeasonFault.{SeasonFault}
use Rattle.season_file.specs.declared.fault.SeasonFault.TheVariants as reading
use Rattle.season_file.specs.declared.season.Season.{Season}
use Rattle.office_moves.specs.Facts.{SeasonFacts}
use Rattle.season_facts.specs.Season.{facts_of}
use Rattle.office_moves.specs.Stands.{AreRecordsOf, Stand}
use Rattle.office_moves.specs.State.{State}
use Rattle.replays.specs.Faults.{IsReplayFault}
use Rattle.replays.specs.declared.fault.ReplayFault.{ReplayFault}
use Rattle.replays.specs.declared.fault.ReplayFault.TheVariants as replay
use Rattle.replays.specs.Resume.{HaveStopped, IsResumeFault, IsUnresumed}
use Rattle.replays.specs.Unresumed.{fault_of, load_fault, replay_fault, season_fault}
use Rattle.replays.specs.declared.fault.ResumeFault.TheVariants as fault
use Rattle.replays.specs.declared.resume.Unresumed.{Unresumed}
use Rattle.replays.specs.declared.resume.Unresumed.TheVariants.{NoSeason, BadSeason, Stray, StrayRaise, Differs, KeeperFault, OutOfMemory}

pub text_fault : (records : Kept) (why : SeasonFault) → IsSeasonFault false records.season why → HaveStopped records (season_fault why)
text_fault records reading.ReadFault is = is
text_fault records reading.TooLong is = is
text_fault records reading.BadFirstLine is = is
text_fault records (reading.Section line) is = is
text_fault records (reading.BadSeason row) is = is
text_fault records (reading.Register why) is = is
text_fault records (reading.Matrix why) is = is
text_fault records (reading.Choices why) is = is
text_fault records reading.NotUtf8 is = is
text_fault records (reading.BadRequest row) is = is
text_fault records reading.OutOfMemory is = tt

pub rows_fault : (records : Kept) (season handed : Season) (why : ReplayFault) → IsSeason records.season season → facts_of handed ≡ facts_of season → IsReplayFault (facts_of season) records why
    → HaveStopped records (replay_fault why handed)
rows_fault records season handed (replay.Stray row) read same is = (season, read, is)
rows_fault records season handed (replay.StrayRaise row) read same is = (season, read, is)
rows_fault records season handed (replay.Differs round cand one other) read same is = (season, read, is, same)
rows_fault records season handed replay.OutOfMemory read same is = tt

-- what stops loaded records is why an office does not resume, and so is a fault of the keeper
pub stopped : (tables : Tables) (records : Kept) (why : Unresumed) → IsLoaded tables records → HaveStopped records why → IsUnresumed tables why
stopped tables records NoSeason loaded have = absurd have
stopped tables records (BadSeason reading) loaded have = (records, loaded, have)
stopped tables records (Stray row) loaded have = (records, loaded, have)
stopped tables records (StrayRaise row) loaded have = (records, loaded, have)
stopped tables records (Differs round cand one other season) loaded have = (records, loaded, have)
stopped tables records KeeperFault loaded have = tt
stopped tables records OutOfMemory loaded have = tt

pub unloaded : (tables : Tables) (why : KeepFault) → IsUnresumed tables (load_fault why)
unloaded tables Failed = tt
unloaded tables NoRoom = tt

-- the same without the season
pub told_fault : (tables : Tables) (why : Unresumed) → IsUnresumed tables why → IsResumeFault tables (fault_of why)
told_fault tables NoSeason is = is
told_fault tables (BadSeason reading) is = is
told_fault tables (Stray row) is = is
told_fault tables (StrayRaise row) is = is
told_fault tables (Differs round cand one other season) is =
    let (records, loaded, have) = is in
    let (spelt, read, differs, same) = have in
    (records, loaded, (spelt, read, differs))
told_fault tables KeeperFault is = tt
told_fault tables OutOfMemory is = tt

pub keeper_failed : (why : Unresumed) → fault_of why ≡ fault.KeeperFault → why ≡ KeeperFault
keeper_failed NoSeason same = absurd cc
keeper_failed (BadSeason reading) same = absurd cc
keeper_failed (Stray row) same = absurd cc
keeper_failed (StrayRaise row) same = absurd cc
keeper_failed (Differs round cand one other season) same = absurd cc
keeper_failed KeeperFault same = refl
keeper_failed OutOfMemory same = absurd cc

pub failed_alone : (why : Unresumed) → (fault_of why ≡ fault.KeeperFault → ⊥) → why ≡ KeeperFault → ⊥
failed_alone why other same = other (subst (λ (w : Unresumed). fault_of w ≡ fault.KeeperFault) (sym same) refl)

-- ---- what is loaded, and what is visible after it

pub loaded_told : (expected told : Tables) (records : Kept) → AreTold expected told → IsLoaded expected records → IsLoaded told records
loaded_told expected Untold records same is = tt
loaded_told expected NoneTold records same is = subst (λ t. IsLoaded t records) same is
loaded_told expected (Records kept) records same is = subst (λ t. IsLoaded t records) same is

-- records that are loaded represent the state that they are records of
pub stand_loaded : (facts : SeasonFacts) (state : State) (tables : Tables) (records : Kept) → IsLoaded tables records → AreRecordsOf facts state records → Stand facts state tables
stand_loaded facts state Untold records is of = tt
stand_loaded facts state NoneTold records is of = absurd is
stand_loaded facts state (Records kept) records is of = subst (λ k. AreRecordsOf facts state k) (sym is) of
