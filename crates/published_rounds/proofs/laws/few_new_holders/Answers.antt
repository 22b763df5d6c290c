use Rattle.published_rounds.proofs.NewHolders as holders
use Rattle.published_rounds.proofs.laws.few_new_holders.Goals as goal

pub returns : goal.returns
returns c =
    holders.few_new_holders c.choose_well.ensures c.programme_choice_exists.ensures c.one_programme_choice.ensures c.no_fewer_admitted.ensures c.in_merit_ranks.ensures c.more_seats.ensures
    c.refused_stays_refused.ensures c.choice_exists.ensures c.choice_size.ensures
