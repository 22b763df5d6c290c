use Rattle.published_rounds.proofs.OwnSteps as own
use Rattle.published_rounds.proofs.laws.dereservation_hurt_nobody.Goals as goal

pub returns : goal.returns
returns c = own.dereservation_hurt_nobody c.orderly.ensures c.dereservation_hurts_nobody.ensures
