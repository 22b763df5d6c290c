use Rattle.published_rounds.proofs.SameOrder as rounds
use Rattle.published_rounds.proofs.laws.only_the_order_counts.Goals as goal

pub returns : goal.returns
returns c = rounds.only_the_order_counts c.programme_choice_exists.ensures c.one_programme_choice.ensures c.choose_well.ensures
