use Rattle.open_then_category.proofs.SetLaws
use Rattle.open_then_category.proofs.laws.programme_choice_exists.Goals as goal

pub returns : goal.returns
returns c = SetLaws.programme_choice_exists c.step_laws.ensures
