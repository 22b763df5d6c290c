-- The fault that the office reports for a fault of a lower call.
use Rattle.keeper_mem.specs.declared.keeper.KeepFault.{KeepFault}
use Rattle.keeper_mem.specs.declared.keeper.KeepFault.TheVariants.{Failed, OutOfMemory as NoRoom}
use Rattle.round_cut.specs.declared.fault.BeginFault.{BeginFault}
use Rattle.round_cut.specs.declared.fault.BeginFault.TheVariants.{KeeperFault as KeeperBeginFault, OutOfMemory as NoMemoryToBegin}
use Rattle.round_cut.specs.declared.fault.OfficeFault.{OfficeFault}
use Rattle.round_cut.specs.declared.fault.OfficeFault.TheVariants.{KeeperFault, OutOfMemory}

-- where an office begins
abbrev pub begin_fault : KeepFault → BeginFault
begin_fault Failed = KeeperBeginFault
begin_fault NoRoom = NoMemoryToBegin

-- where a request is answered
abbrev pub office_fault : KeepFault → OfficeFault
office_fault Failed = KeeperFault
office_fault NoRoom = OutOfMemory
