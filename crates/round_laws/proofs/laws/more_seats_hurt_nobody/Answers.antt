use Rattle.round_laws.proofs.Told as told
use Rattle.round_laws.proofs.laws.more_seats_hurt_nobody.Goals as goal

pub returns : goal.returns
returns c = told.more_seats c.choose_well.ensures c.grow.ensures
