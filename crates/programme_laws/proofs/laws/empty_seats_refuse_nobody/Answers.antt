use Rattle.programme_laws.proofs.EmptySeats as empty
use Rattle.programme_laws.proofs.laws.empty_seats_refuse_nobody.Goals as goal

pub returns : goal.returns
returns c = empty.empty_seats_refuse_nobody c.in_merit_ranks.ensures c.choice_size.ensures
