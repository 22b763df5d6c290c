use Rattle.season_laws.proofs.Looks.{state_looks}
use Rattle.season_laws.proofs.laws.state_looks_at_numbers.Goals as goal

pub returns : goal.returns
returns c = state_looks
