use Rattle.special_round.proofs.Fitting
use Rattle.special_round.proofs.laws.rounds_fit.Goals as goal

pub returns : goal.returns
returns c = Fitting.rounds_fit c.choose_well.ensures c.one_programme_choice.ensures
