use Rattle.merit_choice.proofs.PassedOver
use Rattle.merit_choice.proofs.laws.nobody_passed_over.Goals as goal

pub returns : goal.returns
returns c = PassedOver.nobody_passed_over
