use Rattle.step_cutoffs.proofs.Existing
use Rattle.step_cutoffs.proofs.laws.cutoff_is_of_traits.Goals as goal

pub returns : goal.returns
returns c = Existing.cutoff_is_of_traits
