use Rattle.published_rounds.proofs.Market as market
use Rattle.published_rounds.proofs.laws.closing_places_decide.Goals as goal

pub returns : goal.returns
returns c = market.closing_places_decide c.choose_well.ensures c.programme_choice_exists.ensures c.one_programme_choice.ensures c.nobody_is_passed_over.ensures c.admitted_may_stand.ensures
