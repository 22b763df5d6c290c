use Rattle.special_round.proofs.Within.{left_within}
use Rattle.special_round.proofs.laws.left_is_within.Goals as goal

pub returns : goal.returns
returns c = left_within
