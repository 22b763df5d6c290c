use Rattle.round_laws.proofs.Told as told
use Rattle.round_laws.proofs.laws.fair_rounds_seat_alike.Goals as goal

pub returns : goal.returns
returns c = told.seat_alike c.choose_well.ensures c.admit_no_fewer.ensures
