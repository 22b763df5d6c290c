use Rattle.open_then_category.proofs.SetLaws
use Rattle.open_then_category.proofs.laws.one_programme_choice.Goals as goal

pub returns : goal.returns
returns c = SetLaws.one_programme_choice c.step_laws.ensures
