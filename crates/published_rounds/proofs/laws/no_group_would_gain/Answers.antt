use Rattle.published_rounds.proofs.GroupRounds as rounds
use Rattle.published_rounds.proofs.laws.no_group_would_gain.Goals as goal

pub returns : goal.returns
returns c = rounds.no_group_would_gain c.orderly.ensures c.no_group_gains_in_a_round.ensures
