use Rattle.std.proofs.Common.{arith}
use Rattle.std.proofs.lemmas.Grind.{common_steps}
use Rattle.step_command.proofs.LineLemmas.{seats_in-more}
use Rattle.step_command.proofs.line.seats_of.Goals as goal

pub returns-in-Some : goal.returns-in-Some
returns-in-Some c = grind (arith, common_steps, seats_in-more)
