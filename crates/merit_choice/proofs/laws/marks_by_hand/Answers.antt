use Rattle.merit_choice.proofs.ByHand
use Rattle.merit_choice.proofs.laws.marks_by_hand.Goals as goal

pub returns : goal.returns
returns c = ByHand.marks_by_hand
