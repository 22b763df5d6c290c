-- What comes of a transaction that was rolled back.
use Rattle.sqlite.specs.declared.error.Error.TheVariants.{SqliteFailure}
use Rattle.sqlite.specs.declared.error.ErrorCode.TheVariants.{OutOfMemory as NoRoom}
use Rattle.keeper_mem.specs.declared.keeper.KeepFault.{KeepFault}
use Rattle.keeper_mem.specs.declared.keeper.KeepFault.TheVariants.{Failed, OutOfMemory}
use Rattle.keeper_sqlite.specs.declared.halt.Halt.{Halt}
use Rattle.keeper_sqlite.specs.declared.halt.Halt.TheVariants.{Refused, InTransaction, Unfit, NoMemory}

-- a lack of memory, here or in the database, is reported as such; everything else is a fault
abbrev pub keep_fault : Halt → KeepFault
keep_fault NoMemory = OutOfMemory
keep_fault (Refused (SqliteFailure NoRoom)) = OutOfMemory
keep_fault (Refused error) = Failed
keep_fault InTransaction = Failed
keep_fault Unfit = Failed

-- memory ran out, here or in the database
abbrev pub WantsMemory : Halt → Type 0
WantsMemory halt = Is (keep_fault halt)
  where
    Is : KeepFault → Type 0
    Is OutOfMemory = Unit {0}
    Is Failed = ⊥
