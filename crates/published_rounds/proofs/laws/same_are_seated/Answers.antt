use Rattle.published_rounds.proofs.Compared as compared
use Rattle.published_rounds.proofs.laws.same_are_seated.Goals as goal

pub returns : goal.returns
returns c = compared.same_are_seated c.orderly.ensures c.fair_rounds_seat_alike.ensures
