use Rattle.published_rounds.proofs.Market as market
use Rattle.published_rounds.proofs.laws.no_seat_is_wasted.Goals as goal

pub returns : goal.returns
returns c = market.no_seat_is_wasted c.choose_well.ensures c.programme_choice_exists.ensures c.one_programme_choice.ensures c.empty_seats_refuse_nobody.ensures
