use Rattle.published_rounds.proofs.FairThen as then
use Rattle.published_rounds.proofs.laws.seats_are_within.Goals as goal

pub returns : goal.returns
returns c = then.seats_are_within c.orderly.ensures c.seats_are_within_where_fair.ensures
