use Rattle.step_cutoffs.proofs.Deciding
use Rattle.step_cutoffs.proofs.laws.admitted_are_within.Goals as goal

pub returns : goal.returns
returns c = Deciding.admitted_are_within
