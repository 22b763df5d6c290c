use Rattle.open_then_category.proofs.Last
use Rattle.open_then_category.proofs.laws.dereservation_comes_last.Goals as goal

pub returns : goal.returns
returns c = Last.dereservation_comes_last c.step_laws.ensures
