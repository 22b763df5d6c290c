use Rattle.step_cutoffs.proofs.Existing
use Rattle.step_cutoffs.proofs.laws.one_cutoff.Goals as goal

pub returns : goal.returns
returns c = Existing.one_cutoff
