use Rattle.merit_choice.proofs.StepLaws
use Rattle.merit_choice.proofs.laws.leaving_out_refused.Goals as goal

pub returns : goal.returns
returns c = StepLaws.leaving_out_refused
