use Rattle.published_rounds.proofs.FairThen as then
use Rattle.published_rounds.proofs.laws.few_new_holders_then.Goals as goal

pub returns : goal.returns
returns c = then.few_new_holders_then c.orderly.ensures c.choose_well.ensures c.grow.ensures c.few_new_holders.ensures
