use Rattle.merit_choice.proofs.InMerit
use Rattle.merit_choice.proofs.laws.in_merit_ranks.Goals as goal

pub returns : goal.returns
returns c = InMerit.in_merit_ranks
