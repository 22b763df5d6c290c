use Rattle.merit_choice.proofs.StepLaws
use Rattle.merit_choice.proofs.laws.one_choice.Goals as goal

pub returns : goal.returns
returns c = StepLaws.one_choice
