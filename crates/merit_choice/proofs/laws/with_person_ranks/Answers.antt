use Rattle.merit_choice.proofs.InMerit
use Rattle.merit_choice.proofs.laws.with_person_ranks.Goals as goal

pub returns : goal.returns
returns c = InMerit.with_person_ranks
