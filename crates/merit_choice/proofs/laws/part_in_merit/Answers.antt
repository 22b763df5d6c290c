use Rattle.merit_choice.proofs.InMerit
use Rattle.merit_choice.proofs.laws.part_in_merit.Goals as goal

pub returns : goal.returns
returns c = InMerit.part_in_merit
