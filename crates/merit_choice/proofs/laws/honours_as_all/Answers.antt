use Rattle.merit_choice.proofs.StepLaws
use Rattle.merit_choice.proofs.laws.honours_as_all.Goals as goal

pub returns : goal.returns
returns c = StepLaws.honours_as_all
