use Rattle.merit_choice.proofs.OneByOne
use Rattle.merit_choice.proofs.laws.refused_before.Goals as goal

pub returns : goal.returns
returns c = OneByOne.refused_before
