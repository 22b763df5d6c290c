use Rattle.step_cutoffs.proofs.Deciding
use Rattle.step_cutoffs.proofs.laws.refused_are_outside.Goals as goal

pub returns : goal.returns
returns c = Deciding.refused_are_outside c.step_laws.ensures
