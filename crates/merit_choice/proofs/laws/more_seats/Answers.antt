use Rattle.merit_choice.proofs.StepLaws
use Rattle.merit_choice.proofs.laws.more_seats.Goals as goal

pub returns : goal.returns
returns c = StepLaws.more_seats
