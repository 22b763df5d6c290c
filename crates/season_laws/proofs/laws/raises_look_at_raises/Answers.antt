use Rattle.season_laws.proofs.Looks.{raise_looks_alone}
use Rattle.season_laws.proofs.laws.raises_look_at_raises.Goals as goal

pub returns : goal.returns
returns c = raise_looks_alone
