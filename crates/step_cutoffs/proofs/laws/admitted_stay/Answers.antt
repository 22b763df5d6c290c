use Rattle.step_cutoffs.proofs.Easing
use Rattle.step_cutoffs.proofs.laws.admitted_stay.Goals as goal

pub returns : goal.returns
returns c = Easing.admitted_stay c.choice_exists.ensures c.refused_stays_refused.ensures c.more_seats.ensures
