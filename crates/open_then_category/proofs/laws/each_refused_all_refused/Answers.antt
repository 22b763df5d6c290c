use Rattle.open_then_category.proofs.SetLaws
use Rattle.open_then_category.proofs.laws.each_refused_all_refused.Goals as goal

pub returns : goal.returns
returns c = SetLaws.each_refused_all_refused c.step_laws.ensures
