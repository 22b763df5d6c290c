use Rattle.published_rounds.proofs.Guaranteed as guaranteed
use Rattle.published_rounds.proofs.laws.kept_exactly.Goals as goal

pub returns : goal.returns
returns c = guaranteed.kept_exactly c.orderly.ensures
