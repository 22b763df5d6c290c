use Rattle.special_round.proofs.Sums
use Rattle.special_round.proofs.laws.together_within.Goals as goal

pub returns : goal.returns
returns c = Sums.together_within c.rounds_fit.ensures
