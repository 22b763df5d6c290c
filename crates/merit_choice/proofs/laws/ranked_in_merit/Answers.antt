use Rattle.merit_choice.proofs.InMerit
use Rattle.merit_choice.proofs.laws.ranked_in_merit.Goals as goal

pub returns : goal.returns
returns c = InMerit.ranked_in_merit
