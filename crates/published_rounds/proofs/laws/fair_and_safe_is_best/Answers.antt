use Rattle.published_rounds.proofs.RuleRounds as rounds
use Rattle.published_rounds.proofs.laws.fair_and_safe_is_best.Goals as goal

pub returns : goal.returns
returns c = rounds.fair_and_safe_is_best c.choose_well.ensures c.admit_no_fewer.ensures
