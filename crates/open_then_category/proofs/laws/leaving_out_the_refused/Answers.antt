use Rattle.open_then_category.proofs.SetLaws
use Rattle.open_then_category.proofs.laws.leaving_out_the_refused.Goals as goal

pub returns : goal.returns
returns c = SetLaws.leaving_out_the_refused c.step_laws.ensures
