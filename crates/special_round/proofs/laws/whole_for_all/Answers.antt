use Rattle.special_round.proofs.Whole
use Rattle.special_round.proofs.laws.whole_for_all.Goals as goal

pub returns : goal.returns
returns c = Whole.whole_for_all
