use Rattle.step_cutoffs.proofs.Existing
use Rattle.step_cutoffs.proofs.laws.cutoff_exists.Goals as goal

pub returns : goal.returns
returns c = Existing.cutoff_exists
