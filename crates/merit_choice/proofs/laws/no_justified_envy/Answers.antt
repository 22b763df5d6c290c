use Rattle.merit_choice.proofs.PassedOver
use Rattle.merit_choice.proofs.laws.no_justified_envy.Goals as goal

pub returns : goal.returns
returns c = PassedOver.no_justified_envy
