use Rattle.season_laws.proofs.Looks.{list_looks}
use Rattle.season_laws.proofs.laws.lists_look_at_the_round.Goals as goal

pub returns : goal.returns
returns c = list_looks
