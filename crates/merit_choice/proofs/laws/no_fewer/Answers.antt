use Rattle.merit_choice.proofs.StepLaws
use Rattle.merit_choice.proofs.laws.no_fewer.Goals as goal

pub returns : goal.returns
returns c = StepLaws.no_fewer
