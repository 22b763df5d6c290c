use Rattle.open_then_category.proofs.SetLaws
use Rattle.open_then_category.proofs.laws.admitted_once.Goals as goal

pub returns : goal.returns
returns c = SetLaws.admitted_once c.step_laws.ensures
