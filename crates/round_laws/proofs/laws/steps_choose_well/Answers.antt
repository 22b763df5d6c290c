use Rattle.round_laws.proofs.Choosing as choosing
use Rattle.round_laws.proofs.laws.steps_choose_well.Goals as goal

pub returns : goal.returns
returns c = choosing.steps_well c.chosen_well.ensures
