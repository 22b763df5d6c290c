use Rattle.open_then_category.proofs.Last
use Rattle.open_then_category.proofs.laws.no_seat_stays_empty.Goals as goal

pub returns : goal.returns
returns c = Last.no_seat_stays_empty c.step_laws.ensures
