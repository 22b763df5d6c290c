use Rattle.published_rounds.proofs.FairThen as then
use Rattle.published_rounds.proofs.laws.nobody_is_envied.Goals as goal

pub returns : goal.returns
returns c = then.nobody_is_envied c.orderly.ensures c.published_rounds_are_justified.ensures
