-- The statuses of an office that was served.
use Rattle.std.specs.Prelude.{ℕ, Bool, true, false, List, Result, Ok, Err}
use Rattle.office_base.specs.FaultLines.{memory_line}
use Rattle.command_answers.specs.declared.status.Status.{Status}
use Rattle.command_answers.specs.declared.status.Status.TheVariants.{Ok as Done, KeeperFault, OutOfMemory, DoorFault}
use Rattle.command_answers.specs.Writes.{keeper_line}
use Rattle.http_wire.specs.declared.faults.Fault.{Fault}
use Rattle.http_wire.specs.declared.faults.Fault.TheVariants.{Keeper, Memory}

-- whether a door failed
abbrev pub served_status : Bool → Status
served_status true = DoorFault
served_status false = Done

-- what waited at the end was kept; or the keeper failed, or memory ran out for it
abbrev pub end_status : Result (Unit {0}) Fault → Bool → Status
end_status (Ok done) failed = served_status failed
end_status (Err Keeper) failed = KeeperFault
end_status (Err Memory) failed = OutOfMemory

abbrev pub lost_line : Fault → List ℕ
lost_line Keeper = keeper_line
lost_line Memory = memory_line

-- with the text that was made, or with none
abbrev pub told_status : {E : Type 0} → Bool → Result (List ℕ) E → Status
told_status failed (Ok text) = served_status failed
told_status failed (Err none) = OutOfMemory

abbrev pub told_text : {E : Type 0} → Result (List ℕ) E → List ℕ
told_text (Ok text) = text
told_text (Err none) = memory_line
