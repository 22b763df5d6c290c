use Rattle.published_rounds.proofs.RegisterRounds as rounds
use Rattle.published_rounds.proofs.laws.moving_up_never_hurts_in_a_round.Goals as goal

pub returns : goal.returns
returns c = rounds.moving_up_never_hurts_in_a_round c.orderly.ensures c.moving_up_never_hurts.ensures
