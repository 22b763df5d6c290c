-- The fault that a run reports for a fault of a lower call.
use Rattle.round_cut.specs.declared.fault.OfficeFault.{OfficeFault}
use Rattle.round_cut.specs.declared.fault.OfficeFault.TheVariants.{KeeperFault as KeeperFailed, OutOfMemory as NoMemory}
use Rattle.season_commands.specs.declared.fault.RunFault.{RunFault}
use Rattle.season_commands.specs.declared.fault.RunFault.TheVariants.{KeeperFault, OutOfMemory}

-- where a request is not answered
abbrev pub run_fault : OfficeFault → RunFault
run_fault KeeperFailed = KeeperFault
run_fault NoMemory = OutOfMemory
