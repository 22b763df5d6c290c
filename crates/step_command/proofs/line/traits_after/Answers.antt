use Rattle.std.proofs.Common.{arith}
use Rattle.std.proofs.lemmas.Grind.{common_steps}
use Rattle.step_command.proofs.LineLemmas.{traits_in-more}
use Rattle.step_command.proofs.line.traits_after.Goals as goal

pub returns-in-Some-more-clause-value : goal.returns-in-Some-more-clause-value
returns-in-Some-more-clause-value c = grind (arith, common_steps, traits_in-more)
