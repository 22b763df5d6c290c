use Rattle.step_cutoffs.proofs.Deciding
use Rattle.step_cutoffs.proofs.laws.cutoffs_decide.Goals as goal

pub returns : goal.returns
returns c = Deciding.cutoffs_decide c.step_laws.ensures
