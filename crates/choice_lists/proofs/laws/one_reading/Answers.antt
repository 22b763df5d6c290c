use Rattle.choice_lists.proofs.LawsLemmas.{one_reading}
use Rattle.choice_lists.proofs.laws.one_reading.Goals as goal

pub returns : goal.returns
returns c = one_reading
