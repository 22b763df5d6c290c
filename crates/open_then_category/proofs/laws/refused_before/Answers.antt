use Rattle.open_then_category.proofs.SetLaws
use Rattle.open_then_category.proofs.laws.refused_before.Goals as goal

pub returns : goal.returns
returns c = SetLaws.refused_before c.step_laws.ensures
