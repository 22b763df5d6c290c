use Rattle.season_commands.proofs.RunLemmas.{goes_on}
use Rattle.season_commands.proofs.laws.goes_on.Goals as goal

pub returns : goal.returns
returns c = λ facts. goes_on facts
