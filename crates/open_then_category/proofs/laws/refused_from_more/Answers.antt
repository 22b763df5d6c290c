use Rattle.open_then_category.proofs.SetLaws
use Rattle.open_then_category.proofs.laws.refused_from_more.Goals as goal

pub returns : goal.returns
returns c = SetLaws.refused_from_more c.step_laws.ensures
