use Rattle.published_rounds.proofs.Simple as simple
use Rattle.published_rounds.proofs.laws.the_simple_rule.Goals as goal

pub returns : goal.returns
returns c = simple.the_simple_rule c.by_hand.ensures
