use Rattle.merit_choice.proofs.InMerit
use Rattle.merit_choice.proofs.laws.part_can_be_ranked.Goals as goal

pub returns : goal.returns
returns c = InMerit.part_can_be_ranked
