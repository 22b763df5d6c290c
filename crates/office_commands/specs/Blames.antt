-- Which objects a status blames: each object of the outside that failed in a call, and no other.
use Rattle.std.specs.Prelude.{◌≡◌, ◌≢◌, ◌≤◌, ◌⊎◌, ℕ, List}
use Rattle.office_base.specs.Outside.{Rose}
use Rattle.door_crews.specs.Ending.{SomeRose}
use Rattle.command_answers.specs.declared.status.Status.{Status}
use Rattle.command_answers.specs.declared.status.Status.TheVariants.{BadInput, ReadFault, WriteFault, KeeperFault, OutOfMemory, DoorFault, Differs}

-- how often each object has failed, and each of the doors
pub record Counts : Type 0 where
  pub source : ℕ
  pub sink : ℕ
  pub keeper : ℕ
  pub doors : List ℕ

-- The status reports a fault only if that object failed: its count rose.
-- If it reports no fault of an object, that count is unchanged.
-- Only a fault of the sink can hide one of the source or of the keeper.
-- A fault of the sink or a lack of memory can hide one of a door, and so can one of the keeper if an office is served.
-- An office that is served reports the keeper's faults in its replies,
-- so there the keeper's count may rise under other statuses.
-- It is unchanged if the status reports a fault that comes before the office answers.
pub record Blames (serves : Type 0) (status : Status) (old new : Counts) : Type 0 where
  pub read : status ≡ ReadFault → Rose old.source new.source
  pub write : status ≡ WriteFault → Rose old.sink new.sink
  pub keeper : status ≡ KeeperFault → Rose old.keeper new.keeper
  pub door : status ≡ DoorFault → SomeRose (λ count. count) old.doors new.doors
  pub source_steady : status ≢ ReadFault → status ≢ WriteFault → new.source ≡ old.source
  pub sink_steady : status ≢ WriteFault → new.sink ≡ old.sink
  pub keeper_steady : (serves → ⊥) → status ≢ KeeperFault → status ≢ WriteFault → new.keeper ≡ old.keeper
  pub keeper_early : (status ≡ BadInput) ⊎ ((status ≡ ReadFault) ⊎ (status ≡ Differs)) → new.keeper ≡ old.keeper
  pub doors_steady : status ≢ DoorFault → status ≢ WriteFault → status ≢ OutOfMemory → (serves → status ≢ KeeperFault) → new.doors ≡ old.doors
  pub keeper_count : old.keeper ≤ new.keeper
