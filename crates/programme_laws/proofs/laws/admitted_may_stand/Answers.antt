use Rattle.programme_laws.proofs.EmptySeats as empty
use Rattle.programme_laws.proofs.laws.admitted_may_stand.Goals as goal

pub returns : goal.returns
returns c = empty.admitted_may_stand
