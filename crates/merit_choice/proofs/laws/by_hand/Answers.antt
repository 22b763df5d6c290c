use Rattle.merit_choice.proofs.ByHand
use Rattle.merit_choice.proofs.laws.by_hand.Goals as goal

pub returns : goal.returns
returns c = ByHand.by_hand
