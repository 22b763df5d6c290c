use Rattle.season_laws.proofs.Otherwise as otherwise
use Rattle.season_laws.proofs.laws.float_is_no_worse.Goals as goal

pub returns : goal.returns
returns c = otherwise.float_is_no_worse c.wider_is_no_worse.ensures
