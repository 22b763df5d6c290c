use Rattle.published_rounds.proofs.Guaranteed as guaranteed
use Rattle.published_rounds.proofs.laws.guaranteed_seats_are_had.Goals as goal

pub returns : goal.returns
returns c = guaranteed.guaranteed_seats_are_had c.orderly.ensures c.steps_choose_well.ensures
