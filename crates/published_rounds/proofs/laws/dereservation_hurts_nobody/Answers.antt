use Rattle.published_rounds.proofs.OwnSteps as own
use Rattle.published_rounds.proofs.laws.dereservation_hurts_nobody.Goals as goal

pub returns : goal.returns
returns c = own.dereservation_hurts_nobody c.choose_well.ensures
