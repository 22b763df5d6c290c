use Rattle.published_rounds.proofs.RuleRounds as rounds
use Rattle.published_rounds.proofs.laws.only_the_round_is_safe.Goals as goal

pub returns : goal.returns
returns c = rounds.only_the_round_is_safe c.orderly.ensures c.choose_well.ensures c.fair_and_safe_is_best.ensures
