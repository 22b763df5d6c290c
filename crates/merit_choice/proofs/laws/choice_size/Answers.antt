use Rattle.merit_choice.proofs.StepLaws
use Rattle.merit_choice.proofs.laws.choice_size.Goals as goal

pub returns : goal.returns
returns c = StepLaws.choice_size
