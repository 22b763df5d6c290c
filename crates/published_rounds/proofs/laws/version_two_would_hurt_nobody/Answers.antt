use Rattle.published_rounds.proofs.Versions as versions
use Rattle.published_rounds.proofs.laws.version_two_would_hurt_nobody.Goals as goal

pub returns : goal.returns
returns c = versions.version_two_would_hurt_nobody c.orderly.ensures c.version_two_hurts_nobody.ensures
