use Rattle.merit_choice.proofs.StepLaws
use Rattle.merit_choice.proofs.laws.choice_exists.Goals as goal

pub returns : goal.returns
returns c = StepLaws.choice_exists
