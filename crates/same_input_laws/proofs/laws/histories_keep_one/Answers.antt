use Rattle.same_input_laws.proofs.Keep as keep
use Rattle.same_input_laws.proofs.laws.histories_keep_one.Goals as goal

pub returns : goal.returns
returns c = keep.histories_keep_one c.one_history.ensures
