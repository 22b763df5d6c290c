use Rattle.step_cutoffs.proofs.Existing
use Rattle.step_cutoffs.proofs.laws.more_traits_widen.Goals as goal

pub returns : goal.returns
returns c = Existing.more_traits_widen
