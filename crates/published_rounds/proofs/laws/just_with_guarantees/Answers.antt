use Rattle.published_rounds.proofs.Guaranteed as guaranteed
use Rattle.published_rounds.proofs.laws.just_with_guarantees.Goals as goal

pub returns : goal.returns
returns c = guaranteed.just_with_guarantees c.orderly.ensures c.choose_well.ensures
