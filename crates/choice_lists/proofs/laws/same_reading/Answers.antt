use Rattle.choice_lists.proofs.LawsLemmas.{same_reading}
use Rattle.choice_lists.proofs.laws.same_reading.Goals as goal

pub returns : goal.returns
returns c = same_reading
