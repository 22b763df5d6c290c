use Rattle.season_laws.proofs.ToTheEnd.{nobody_falls_later}
use Rattle.season_laws.proofs.laws.nobody_falls_later.Goals as goal

pub returns : goal.returns
returns c facts = nobody_falls_later facts (c.orderly.ensures facts)
