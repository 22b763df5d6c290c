use Rattle.merit_choice.proofs.OneByOne
use Rattle.merit_choice.proofs.laws.seats_for_all.Goals as goal

pub returns : goal.returns
returns c = OneByOne.seats_for_all
