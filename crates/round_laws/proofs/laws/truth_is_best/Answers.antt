use Rattle.round_laws.proofs.Told as told
use Rattle.round_laws.proofs.laws.truth_is_best.Goals as goal

pub returns : goal.returns
returns c = told.truth c.choose_well.ensures c.admit_no_fewer.ensures
