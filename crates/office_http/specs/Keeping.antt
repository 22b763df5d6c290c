-- What is kept of an office at a desk, and what a settling of it leaves.
use Rattle.std.specs.Prelude.{◌≡◌, ◌≤◌, ◌⊎◌, ℕ, Bool, true, false, List, length, take, Result, Ok, Err, IsOk}
use Rattle.office_base.specs.Outside.{Rose}
use Rattle.keeper_mem.specs.Keeper.{KeeperView}
use Rattle.kept_rows.specs.Tables.{Tables, AreTold}
use Rattle.office_moves.specs.Facts.{SeasonFacts}
use Rattle.office_moves.specs.History.{IsHistory}
use Rattle.office_moves.specs.Stands.{Stand}
use Rattle.office_moves.specs.State.{State}
use Rattle.office_moves.specs.declared.moves.Entry.{Entry}
use Rattle.round_cut.specs.Office.{OfficeView}
use Rattle.http_wire.specs.declared.faults.Fault.{Fault}
use Rattle.http_wire.specs.declared.faults.Fault.TheVariants.{Keeper, Memory}

-- An office at a desk, and how many of its entries are kept, from the oldest on: a crash does not take them back.
pub record StoodView (K : Type 0) : Type 0 where
  pub office : OfficeView K
  pub kept : ℕ

-- some keeper of this kind lets rows wait to be kept
abbrev pub MayWait : {K : Type 0} → (K → KeeperView) → Type 0
MayWait {K} seen = (keeper : K) × ((seen keeper).settled ≡ false)

-- these entries are a history, and the tables represent the state after it
abbrev pub StandAfter : SeasonFacts → List Entry → Tables → Type 0
StandAfter facts entries tables = (state : State) × IsHistory facts entries state × Stand facts state tables

-- So many entries are kept: all if no row of the keeper waits. The tables that a crash leaves represent the state after them.
-- If none is kept yet, these tables may be those of the beginning.
pub record IsKept (begun : Tables) (facts : SeasonFacts) (entries : List Entry) (kept : ℕ) (view : KeeperView) : Type 0 where
  pub within : kept ≤ length entries
  pub whole : view.settled ≡ true → kept ≡ length entries
  pub tables : StandAfter facts (take kept entries) view.kept ⊎ ((kept ≡ 0) × AreTold begun view.kept)

module _ {K : Type 0} (seen : K → KeeperView) where
  -- All entries of an office are kept, and the tables that a crash leaves represent the state after them.
  abbrev pub IsWhole : OfficeView K → ℕ → Type 0
  IsWhole office kept = (kept ≡ length office.entries) × StandAfter office.season office.entries (seen office.keeper).kept

  -- How many entries of an office are kept: all if no row of its keeper waits, and otherwise as many as before.
  pub record CountsKept (office : OfficeView K) (before : ℕ) (settled : Bool) (kept : ℕ) : Type 0 where
    pub is : settled ≡ (seen office.keeper).settled
    pub all : settled ≡ true → IsWhole office kept
    pub waits : settled ≡ false → kept ≡ before

  -- What settling an office leaves: it accepts nothing, and says whether the keeper failed.
  -- If rows still wait, a crash leaves the same tables as before.
  pub record HasSettled (failed : Type 0) (old new : OfficeView K) : Type 0 where
    pub season : new.season ≡ old.season
    pub entries : new.entries ≡ old.entries
    pub state : new.state ≡ old.state
    pub told : AreTold (seen old.keeper).tables (seen new.keeper).tables
    pub stays : (seen new.keeper).settled ≡ false → AreTold (seen old.keeper).kept (seen new.keeper).kept
    pub room : (seen new.keeper).holds_room ≡ (seen old.keeper).holds_room
    pub count : (seen old.keeper).faults ≤ (seen new.keeper).faults
    pub cause : failed → Rose (seen old.keeper).faults (seen new.keeper).faults
    pub steady : ¬ failed → (seen new.keeper).faults ≡ (seen old.keeper).faults

  -- An office was settled unless nothing waited: then nothing waits, or the keeper failed, or memory ran out.
  abbrev pub SettlesOffice : Result (Unit {0}) Fault → OfficeView K → OfficeView K → Type 0
  SettlesOffice (Ok done) old new = HasSettled ⊥ old new × ((seen new.keeper).settled ≡ true)
  SettlesOffice (Err Keeper) old new = HasSettled (Unit {0}) old new × ((seen old.keeper).settled ≡ false)
  SettlesOffice (Err Memory) old new = HasSettled ⊥ old new × ((seen old.keeper).settled ≡ false)

  -- the same at a desk: no fewer entries are kept, and after an Ok all are
  abbrev pub SettlesStood : Result (Unit {0}) Fault → StoodView K → StoodView K → Type 0
  SettlesStood result old new = SettlesOffice result old.office new.office × (old.kept ≤ new.kept) × (IsOk result → IsWhole new.office new.kept)

  -- An office at a desk was settled, unless so many entries were kept already: then so many are, or all; or it could not be settled.
  abbrev pub KeepsStood : ℕ → Result (Unit {0}) Fault → StoodView K → StoodView K → Type 0
  KeepsStood needed (Ok done) old new = HasSettled ⊥ old.office new.office × (old.kept ≤ new.kept) × ((needed ≤ new.kept) ⊎ (new.kept ≡ length new.office.entries))
  KeepsStood needed (Err fault) old new = SettlesStood (Err fault) old new
