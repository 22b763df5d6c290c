use Rattle.published_rounds.proofs.Special as special
use Rattle.published_rounds.proofs.laws.special_rounds_are_justified.Goals as goal

pub returns : goal.returns
returns c = special.special_rounds_are_justified c.rounds_are_fair.ensures c.fair_seats_are_justified.ensures
