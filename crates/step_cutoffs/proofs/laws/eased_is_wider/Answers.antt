use Rattle.step_cutoffs.proofs.Easing
use Rattle.step_cutoffs.proofs.laws.eased_is_wider.Goals as goal

pub returns : goal.returns
returns c = Easing.eased_is_wider c.choice_exists.ensures c.admitted_stay.ensures c.cutoffs_decide.ensures c.cutoff_is_of_traits.ensures
