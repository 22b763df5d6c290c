-- Which objects the status of an office at its doors blames.
use Rattle.std.specs.Prelude.{◌≡◌, ◌≢◌, ◌≤◌, ℕ, List, map}
use Rattle.std.specs.List.{AllByRecursion}
use Rattle.office_base.specs.Outside.{Rose}
use Rattle.door_crews.specs.Ending.{SomeRose}
use Rattle.door_crews.specs.Served.{DoorLooks}
use Rattle.command_answers.specs.declared.status.Status.{Status}
use Rattle.command_answers.specs.declared.status.Status.TheVariants.{Ok as Done, WriteFault, KeeperFault, OutOfMemory, DoorFault}

-- A fault of a door is reported only if a door failed. If all went well, every connection came.
-- A failing sink, a failing keeper or a lack of memory alone can hide a door's fault.
pub record BlamesDoors {D L : Type 0} (of : DoorLooks D L) (doors doors' : List D) (status : Status) : Type 0 where
  pub door_fault : status ≡ DoorFault → SomeRose of.faults doors doors'
  pub all_served : status ≡ Done → AllByRecursion (λ d. of.to_come d ≡ 0) doors'
  pub doors_steady : status ≢ DoorFault → status ≢ WriteFault → status ≢ OutOfMemory → status ≢ KeeperFault → map of.faults doors' ≡ map of.faults doors

-- A fault of the keeper is reported only if the keeper failed. With an early status it did not fail.
pub record BlamesKeeper (IsEarly : Status → Type 0) (before after : ℕ) (status : Status) : Type 0 where
  pub keeper_fault : status ≡ KeeperFault → Rose before after
  pub keeper_early : IsEarly status → after ≡ before
  pub keeper_count : before ≤ after
