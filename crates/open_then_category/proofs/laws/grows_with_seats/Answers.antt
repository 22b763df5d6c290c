use Rattle.open_then_category.proofs.SetLaws
use Rattle.open_then_category.proofs.laws.grows_with_seats.Goals as goal

pub returns : goal.returns
returns c = SetLaws.grows_with_seats c.step_laws.ensures
