use Rattle.merit_choice.proofs.InMerit
use Rattle.merit_choice.proofs.laws.same_merit_order.Goals as goal

pub returns : goal.returns
returns c = InMerit.same_merit_order
