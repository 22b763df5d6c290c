use Rattle.published_rounds.proofs.FairThen as then
use Rattle.published_rounds.proofs.laws.few_newly_seated_then.Goals as goal

pub returns : goal.returns
returns c = then.few_newly_seated_then c.orderly.ensures c.choose_well.ensures c.grow.ensures c.few_newly_seated.ensures
