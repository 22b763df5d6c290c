use Rattle.published_rounds.proofs.NewlySeated as seated
use Rattle.published_rounds.proofs.laws.few_newly_seated.Goals as goal

pub returns : goal.returns
returns c = seated.few_newly_seated c.few_new_holders.ensures
