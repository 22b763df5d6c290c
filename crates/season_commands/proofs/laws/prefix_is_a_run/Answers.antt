use Rattle.season_commands.proofs.RunLemmas.{prefix_is_a_run}
use Rattle.season_commands.proofs.laws.prefix_is_a_run.Goals as goal

pub returns : goal.returns
returns c = λ facts. prefix_is_a_run facts
