-- The failures of `step` have their causes.
use Rattle.std.proofs.Common.{ℕ, List}
use Rattle.step_command.specs.Output.{fault_output}
use Rattle.step_command.specs.Sheet.{HasFault}
use Rattle.step_command.specs.declared.fault.SheetFault.{SheetFault}
use Rattle.command_answers.specs.Answers.{IsInputFailure, TellsLine}
use Rattle.step_command.specs.Step.{step_answers}
use Rattle.command_answers.specs.declared.failure.Failure.{Failure}
use Rattle.command_answers.specs.declared.failure.Failure.TheVariants.{Read, Bad, NoMemory}

-- A failure that reports the line of a fault of the bytes is one of reading them.
pub line_is_failure : (bytes : List ℕ) (fault : SheetFault) (failure : Failure) → HasFault bytes fault → TellsLine (fault_output fault) failure → IsInputFailure step_answers bytes failure
line_is_failure bytes fault Read has told = told
line_is_failure bytes fault (Bad line) has told = (fault, has, told)
line_is_failure bytes fault NoMemory has told = tt
