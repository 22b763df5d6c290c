-- The exit status of each way in which a run ends, and the ways that answer.
use Rattle.std.specs.Prelude.{ℕ}
use Rattle.command_answers.specs.declared.status.Status.{Status}
use Rattle.command_answers.specs.declared.status.Status.TheVariants.{Ok, Usage, BadInput, ReadFault, WriteFault, KeeperFault, OutOfMemory, DoorFault, Differs, Broken}

abbrev pub code_of : Status → ℕ
code_of Ok = 0
code_of Usage = 2
code_of BadInput = 3
code_of ReadFault = 4
code_of WriteFault = 5
code_of KeeperFault = 6
code_of OutOfMemory = 7
code_of DoorFault = 8
code_of Differs = 9
code_of Broken = 10

-- the status is that of an answer: neither the source nor the sink nor the keeper nor a door failed, and there was memory
abbrev pub IsAnswered : Status → Type 0
IsAnswered Ok = Unit {0}
IsAnswered Usage = Unit {0}
IsAnswered BadInput = Unit {0}
IsAnswered ReadFault = ⊥
IsAnswered WriteFault = ⊥
IsAnswered KeeperFault = ⊥
IsAnswered OutOfMemory = ⊥
IsAnswered DoorFault = ⊥
IsAnswered Differs = Unit {0}
IsAnswered Broken = Unit {0}
