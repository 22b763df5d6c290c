use Rattle.published_rounds.proofs.Market as market
use Rattle.published_rounds.proofs.laws.seats_are_within_where_fair.Goals as goal

pub returns : goal.returns
returns c = market.seats_are_within_where_fair c.choose_well.ensures c.programme_choice_exists.ensures c.one_programme_choice.ensures
