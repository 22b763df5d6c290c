use Rattle.round_laws.proofs.Choosing as choosing
use Rattle.round_laws.proofs.laws.admit_no_fewer.Goals as goal

pub returns : goal.returns
returns c = choosing.admit_no_fewer c.chosen_well.ensures c.no_fewer_from_more.ensures
