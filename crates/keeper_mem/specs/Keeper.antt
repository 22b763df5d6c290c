-- What is seen of a keeper, and what a call of it does.
use Rattle.std.specs.Prelude.{◌≡◌, ◌≤◌, ◌-◌, ℕ, Bool, true, false, Result, OnOk, OnErr, IsErrOf}
use Rattle.office_base.specs.Outside.{Rose}
use Rattle.kept_rows.specs.Tables.{Tables, AreTold}
use Rattle.keeper_mem.specs.declared.keeper.KeepFault.{KeepFault}
use Rattle.keeper_mem.specs.declared.keeper.KeepFault.TheVariants.{Failed}

-- A keeper as it is seen.
pub record KeeperView : Type 0 where
  -- the tables, with the rows that wait to be kept, if they are visible; a keeper may hide them at any call, and never shows them again
  pub tables : Tables
  -- the tables without the rows that wait: a crash does not take these back
  pub kept : Tables
  -- whether no row waits
  pub settled : Bool
  -- how often it has failed; it never falls, and stays at 2^64 - 1
  pub faults : ℕ
  -- whether room for answers can be taken in advance; it never changes
  pub holds_room : Bool
  -- how many answers can be put without allocating
  pub spare : ℕ

-- A keeper failed only if this cause holds; otherwise its count of faults is unchanged.
-- Whether it holds room in advance is unchanged.
pub record Blames (told : Type 0) (old new : KeeperView) : Type 0 where
  pub cause : told → Rose old.faults new.faults
  pub count : old.faults ≤ new.faults
  pub steady : ¬ told → new.faults ≡ old.faults
  pub room : new.holds_room ≡ old.holds_room

-- If rows wait after a call, the same tables are kept as before it.
abbrev pub KeptGoes : KeeperView → KeeperView → Type 0
KeptGoes old new = new.settled ≡ false → AreTold old.kept new.kept

-- What every call does: it reports whether the keeper failed,
-- and it uses up no room if it did not do what it was asked.
pub record IsCall {X : Type 0} (old new : KeeperView) (result : Result X KeepFault) : Type 0 where
  pub blamed : Blames (IsErrOf result Failed) old new
  pub goes : KeptGoes old new
  pub spare_err : OnErr result (old.spare ≤ new.spare)

-- A call that changes no table.
pub record IsLook {X : Type 0} (old new : KeeperView) (result : Result X KeepFault) : Type 0 where
  pub call : IsCall old new result
  pub told : AreTold old.tables new.tables
  pub spare : OnOk result (new.spare ≡ old.spare)

-- A call that changes the tables in this way, or not at all, and uses the room of that many answers.
pub record IsPut (edit : Tables → Tables) (used : ℕ) (old new : KeeperView) {X : Type 0} (result : Result X KeepFault) : Type 0 where
  pub call : IsCall old new result
  pub ok : OnOk result (AreTold (edit old.tables) new.tables)
  pub err : OnErr result (AreTold old.tables new.tables)
  pub spare : OnOk result (new.spare ≡ old.spare - used)

-- A call that takes room for n answers, if the keeper holds room in advance. What waits still waits.
pub record TakesRoom (n : ℕ) (old new : KeeperView) {X : Type 0} (result : Result X KeepFault) : Type 0 where
  pub call : IsCall old new result
  pub ok : OnOk result (old.holds_room ≡ true → n ≤ new.spare)
  pub told : AreTold old.tables new.tables
  pub kept : AreTold old.kept new.kept
  pub waits : new.settled ≡ old.settled
  pub spare : old.spare ≤ new.spare
