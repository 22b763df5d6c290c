use Rattle.open_then_category.proofs.SetLaws
use Rattle.open_then_category.proofs.laws.one_step.Goals as goal

pub returns : goal.returns
returns c = SetLaws.one_step c.step_laws.ensures
