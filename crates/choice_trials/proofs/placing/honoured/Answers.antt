use Rattle.placements.proofs.Greatest.{IsHonoured-from_greatest}
use Rattle.choice_trials.proofs.placing.honoured.Goals as goal

pub returns-clause-number : goal.returns-clause-number
returns-clause-number c = IsHonoured-from_greatest _ _ _ c.requires.distinct c.greatest.ensures.number
