use Rattle.open_then_category.proofs.Passing
use Rattle.open_then_category.proofs.laws.offers_keep_choices.Goals as goal

pub returns : goal.returns
returns c = Passing.offers_keep_choices c.step_laws.ensures
