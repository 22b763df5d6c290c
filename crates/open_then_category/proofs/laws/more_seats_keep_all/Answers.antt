use Rattle.open_then_category.proofs.SetLaws
use Rattle.open_then_category.proofs.laws.more_seats_keep_all.Goals as goal

pub returns : goal.returns
returns c = SetLaws.more_seats_keep_all c.step_laws.ensures
