use Rattle.merit_choice.proofs.StepLaws
use Rattle.merit_choice.proofs.laws.refused_stays_refused.Goals as goal

pub returns : goal.returns
returns c = StepLaws.refused_stays_refused
