use Rattle.open_then_category.proofs.SetLaws
use Rattle.open_then_category.proofs.laws.chosen_well.Goals as goal

pub returns : goal.returns
returns c = SetLaws.chosen_well c.step_laws.ensures
