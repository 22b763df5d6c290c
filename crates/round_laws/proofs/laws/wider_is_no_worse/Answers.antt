use Rattle.round_laws.proofs.Told as told
use Rattle.round_laws.proofs.laws.wider_is_no_worse.Goals as goal

pub returns : goal.returns
returns c = told.wider c.choose_well.ensures c.admit_no_fewer.ensures
