use Rattle.published_rounds.proofs.Judgments as judgments
use Rattle.published_rounds.proofs.laws.the_order_of_the_judgments.Goals as goal

pub returns : goal.returns
returns c = judgments.the_order c.the_simple_rule.ensures
