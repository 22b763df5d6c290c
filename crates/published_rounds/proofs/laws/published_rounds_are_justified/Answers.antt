use Rattle.published_rounds.proofs.People as people
use Rattle.published_rounds.proofs.laws.published_rounds_are_justified.Goals as goal

pub returns : goal.returns
returns c = people.published_rounds_are_justified c.orderly.ensures c.fair_seats_are_justified.ensures
