-- An office that is served to doors.
use Rattle.std.specs.Prelude.{◌≡◌, ℕ, Bool, true, false, List, length, Result, Err, IsOk, IsErr}
use Rattle.office_base.specs.Outside.{Rose}
use Rattle.keeper_mem.specs.Keeper.{KeeperView}
use Rattle.office_moves.specs.Facts.{SeasonFacts}
use Rattle.office_moves.specs.declared.moves.Entry.{Entry}
use Rattle.http_wire.specs.declared.faults.Fault.{Fault}
use Rattle.http_wire.specs.declared.faults.Fault.TheVariants.{Keeper}
use Rattle.office_http.specs.Asking.{AnswersAt, UnanswersAt}
use Rattle.office_http.specs.Keeping.{IsKept, IsWhole, MayWait}
use Rattle.door_crews.specs.Ending.{AllEnded, SomeRose}
use Rattle.door_crews.specs.Served.{DoorLooks, AllDoorsServed}
use Rattle.round_cut.specs.Office.{OfficeView}

-- All doors are served by the office of this season, over a keeper that holds room in advance or does not, and may let
-- rows wait or does not: from the history A and the keeper's count c to the history H and the count k.
-- So many entries of H are kept, from the oldest on.
abbrev pub DoorsServed : SeasonFacts → Bool → Type 0 → ℕ → {D L : Type 0} → DoorLooks D L → List Entry → ℕ → List D → List D → List Entry → ℕ → Type 0
DoorsServed facts room waits kept {D} {L} of A c doors doors' H k = AllDoorsServed (AnswersAt facts) (UnanswersAt facts room waits) kept of A c doors doors' H k

-- The doors were served by an office, which then is this one: its season and its room for answers are as before.
-- It is told whether a door failed. If none did, no connection is still to come.
-- It is told whether what waited at the end could be kept. If it could, every entry is kept, and the kept tables represent
-- the state after all of them. If not, they represent the state after the entries that are kept, unless none is.
-- In any case whatever was answered is among the kept ones.
pub record Serves {K D L : Type 0} (seen : K → KeeperView) (of : DoorLooks D L) (before after : OfficeView K) (door_failed : Bool) (settled : Result (Unit {0}) Fault) (doors doors' : List D) : Type 0 where
  pub season : after.season ≡ before.season
  pub room : (seen after.keeper).holds_room ≡ (seen before.keeper).holds_room
  pub kept : ℕ
  pub served : DoorsServed before.season (seen before.keeper).holds_room (MayWait seen) kept of before.entries (seen before.keeper).faults doors doors' after.entries (seen after.keeper).faults
  pub tables : IsKept (seen before.keeper).kept after.season after.entries kept (seen after.keeper)
  pub whole : IsOk settled → IsWhole seen after kept
  pub waited : IsErr settled → MayWait seen
  pub blamed : settled ≡ Err Keeper → Rose (seen before.keeper).faults (seen after.keeper).faults
  pub failed : door_failed ≡ true → SomeRose of.faults doors doors'
  pub done : door_failed ≡ false → AllEnded of.faults of.to_come doors doors'
