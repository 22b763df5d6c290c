use Rattle.published_rounds.proofs.Market as market
use Rattle.published_rounds.proofs.laws.nobody_is_kept_where_fair.Goals as goal

pub returns : goal.returns
returns c = market.nobody_is_kept_where_fair c.choose_well.ensures c.programme_choice_exists.ensures c.one_programme_choice.ensures
