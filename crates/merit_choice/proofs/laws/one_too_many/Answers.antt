use Rattle.merit_choice.proofs.OneByOne
use Rattle.merit_choice.proofs.laws.one_too_many.Goals as goal

pub returns : goal.returns
returns c = OneByOne.one_too_many
