use Rattle.special_round.proofs.Finals
use Rattle.special_round.proofs.laws.finals_fit.Goals as goal

pub returns : goal.returns
returns c = Finals.finals_fit c.rounds_fit.ensures
