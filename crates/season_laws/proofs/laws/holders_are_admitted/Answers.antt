use Rattle.season_laws.proofs.ToTheEnd.{holders_are_admitted}
use Rattle.season_laws.proofs.laws.holders_are_admitted.Goals as goal

pub returns : goal.returns
returns c facts = holders_are_admitted facts (c.orderly.ensures facts)
