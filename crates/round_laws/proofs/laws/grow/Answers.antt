use Rattle.round_laws.proofs.Choosing as choosing
use Rattle.round_laws.proofs.laws.grow.Goals as goal

pub returns : goal.returns
returns c = choosing.grow c.chosen_well.ensures c.grows_with_seats.ensures
