use Rattle.published_rounds.proofs.RegisterRounds as rounds
use Rattle.published_rounds.proofs.laws.never_hurts_in_a_round.Goals as goal

pub returns : goal.returns
returns c = rounds.never_hurts_in_a_round c.orderly.ensures c.better_off_is_no_worse.ensures
