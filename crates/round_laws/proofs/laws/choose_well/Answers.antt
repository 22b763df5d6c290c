use Rattle.round_laws.proofs.Choosing as choosing
use Rattle.round_laws.proofs.laws.choose_well.Goals as goal

pub returns : goal.returns
returns c = choosing.choose_well c.chosen_well.ensures
