use Rattle.season_laws.proofs.Otherwise as otherwise
use Rattle.season_laws.proofs.laws.raises_hurt_nobody.Goals as goal

pub returns : goal.returns
returns c = otherwise.raises_hurt_nobody c.more_seats_hurt_nobody.ensures
