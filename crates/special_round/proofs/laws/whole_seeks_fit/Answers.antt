use Rattle.special_round.proofs.Whole
use Rattle.special_round.proofs.laws.whole_seeks_fit.Goals as goal

pub returns : goal.returns
returns c = Whole.whole_seeks_fit
