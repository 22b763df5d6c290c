use Rattle.season_laws.proofs.Replayed.{kept_is_replayed}
use Rattle.season_laws.proofs.laws.kept_is_replayed.Goals as goal

pub returns : goal.returns
returns c = kept_is_replayed
