use Rattle.open_then_category.proofs.SetLaws
use Rattle.open_then_category.proofs.laws.no_fewer_admitted.Goals as goal

pub returns : goal.returns
returns c = SetLaws.no_fewer_admitted c.step_laws.ensures
