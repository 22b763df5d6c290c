use Rattle.open_then_category.proofs.SetLaws
use Rattle.open_then_category.proofs.laws.unfilled_falls.Goals as goal

pub returns : goal.returns
returns c = SetLaws.unfilled_falls c.step_laws.ensures
