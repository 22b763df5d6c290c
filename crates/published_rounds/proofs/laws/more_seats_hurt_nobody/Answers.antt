use Rattle.published_rounds.proofs.Compared as compared
use Rattle.published_rounds.proofs.laws.more_seats_hurt_nobody.Goals as goal

pub returns : goal.returns
returns c = compared.more_seats_hurt_nobody c.orderly.ensures c.more_seats_hurt_nobody.ensures
