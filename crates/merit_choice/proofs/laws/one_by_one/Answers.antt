use Rattle.merit_choice.proofs.OneByOne
use Rattle.merit_choice.proofs.laws.one_by_one.Goals as goal

pub returns : goal.returns
returns c = OneByOne.one_by_one
