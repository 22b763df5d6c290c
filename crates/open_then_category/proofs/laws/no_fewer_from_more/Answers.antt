use Rattle.open_then_category.proofs.Fewer
use Rattle.open_then_category.proofs.laws.no_fewer_from_more.Goals as goal

pub returns : goal.returns
returns c = Fewer.no_fewer_from_more c.step_laws.ensures
