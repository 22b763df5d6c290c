use Rattle.special_round.proofs.Known
use Rattle.special_round.proofs.laws.finals_are_known.Goals as goal

pub returns : goal.returns
returns c = Known.finals_are_known
