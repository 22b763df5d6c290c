use Rattle.published_rounds.proofs.OutsideCutoffs as Refused
use Rattle.published_rounds.proofs.laws.within_cutoffs_is_seated.Goals as goal

pub returns : goal.returns
returns c = Refused.within_cutoffs_is_seated c.refusals_are_outside.ensures
