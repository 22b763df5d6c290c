use Rattle.merit_choice.proofs.InMerit
use Rattle.merit_choice.proofs.laws.one_merit_order.Goals as goal

pub returns : goal.returns
returns c = InMerit.one_merit_order
