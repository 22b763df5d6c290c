use Rattle.open_then_category.proofs.Leaving
use Rattle.open_then_category.proofs.laws.offers_leave_one.Goals as goal

pub returns : goal.returns
returns c = Leaving.offers_leave_one c.step_laws.ensures
