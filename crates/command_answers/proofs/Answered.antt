-- What holds of each answered status.
use Rattle.command_answers.specs.Status.{IsAnswered}
use Rattle.command_answers.specs.declared.status.Status.{Status}
use Rattle.command_answers.specs.declared.status.Status.TheVariants.{Ok as Done, Usage, BadInput, ReadFault, WriteFault, KeeperFault, OutOfMemory, DoorFault, Differs, Broken}

-- What holds of each status of an answer holds of every answered status.
pub by_answer : (Q : Status → Type 0) → Q Done → Q Usage → Q BadInput → Q Differs → Q Broken → (status : Status) → IsAnswered status → Q status
by_answer Q done usage bad differs broken Done answered = done
by_answer Q done usage bad differs broken Usage answered = usage
by_answer Q done usage bad differs broken BadInput answered = bad
by_answer Q done usage bad differs broken ReadFault answered = absurd answered
by_answer Q done usage bad differs broken WriteFault answered = absurd answered
by_answer Q done usage bad differs broken KeeperFault answered = absurd answered
by_answer Q done usage bad differs broken OutOfMemory answered = absurd answered
by_answer Q done usage bad differs broken DoorFault answered = absurd answered
by_answer Q done usage bad differs broken Differs answered = differs
by_answer Q done usage bad differs broken Broken answered = broken
