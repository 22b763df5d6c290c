use Rattle.published_rounds.proofs.Guaranteed as guaranteed
use Rattle.published_rounds.proofs.laws.steps_choose_from_all.Goals as goal

pub returns : goal.returns
returns c = guaranteed.steps_choose_from_all c.orderly.ensures
