-- The source, the sink and the keeper of a command that runs an office, as a call finds and leaves them, and which of
-- them its status blames.
use Rattle.std.specs.Prelude.{◌≡◌, ◌≢◌, ◌≤◌, ◌⊎◌, ℕ, List, Option}
use Rattle.office_base.specs.Outside.{Appends, Rose}
use Rattle.office_base.specs.Visible.{Readable}
use Rattle.office_base.specs.declared.outside.Sink.{Ghosts as SinkGhosts}
use Rattle.kept_rows.specs.Tables.{Tables, still}
use Rattle.keeper_mem.specs.declared.keeper.Keeper.{Ghosts as KeeperGhosts}
use Rattle.command_answers.specs.declared.status.Status.{Status}
use Rattle.command_answers.specs.declared.status.Status.TheVariants.{ReadFault, WriteFault, KeeperFault, OutOfMemory}

-- a sink and a keeper: what was written and what is kept, if they are visible, and how often each has failed
pub record Outside : Type 0 where
  pub written : Option (List ℕ)
  pub write_faults : ℕ
  pub tables : Tables
  pub keeper_faults : ℕ

-- the sink and the keeper as they are now
abbrev pub outside_of : {K P : Type 0} → SinkGhosts K → KeeperGhosts P → K → P → Outside
outside_of k p sink keeper = record { written = k.written sink; write_faults = k.faults sink; tables = (p.seen keeper).tables; keeper_faults = (p.seen keeper).faults }

-- the tables before, if they are visible both before and after
abbrev pub held : Outside → Outside → Tables
held old new = still old.tables new.tables

-- this is appended to what was written, and so it ends
abbrev pub Outputs : (Tables → Tables → Status → List ℕ → Type 0) → Outside → Outside → Status → Type 0
Outputs Ends old new status = (output : List ℕ) × Appends output old.written new.written × Ends old.tables new.tables status output

-- neither the sink failed nor the keeper
abbrev pub Held : Outside → Outside → Type 0
Held old new = (¬ Rose old.write_faults new.write_faults) × (¬ Rose old.keeper_faults new.keeper_faults)

-- it ends with this status, unless memory ran out
abbrev pub EndsWith : Status → Status → Type 0
EndsWith wanted status = (status ≡ wanted) ⊎ (status ≡ OutOfMemory)

-- The status reports a fault of the sink or the keeper only if that object failed.
-- If the status reports none, it did not fail.
-- Only a fault of the sink can hide one of the keeper.
pub record BlamesOffice (status : Status) (old new : Outside) : Type 0 where
  pub write_fault : status ≡ WriteFault → Rose old.write_faults new.write_faults
  pub keeper_fault : status ≡ KeeperFault → Rose old.keeper_faults new.keeper_faults
  pub sink_steady : status ≢ WriteFault → new.write_faults ≡ old.write_faults
  pub keeper_count : old.keeper_faults ≤ new.keeper_faults
  pub keeper_steady : status ≢ KeeperFault → status ≢ WriteFault → new.keeper_faults ≡ old.keeper_faults

-- The same of the source.
pub record BlamesSource (status : Status) (old new : Readable) : Type 0 where
  pub read_fault : status ≡ ReadFault → Rose old.faults new.faults
  pub source_steady : status ≢ ReadFault → status ≢ WriteFault → new.faults ≡ old.faults
