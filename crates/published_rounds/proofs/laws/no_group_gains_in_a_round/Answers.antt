use Rattle.published_rounds.proofs.GroupRounds as rounds
use Rattle.published_rounds.proofs.laws.no_group_gains_in_a_round.Goals as goal

pub returns : goal.returns
returns c = rounds.no_group_gains_in_a_round c.choose_well.ensures c.admit_no_fewer.ensures
