use Rattle.rank_lists.proofs.LawsLemmas.{one_reading}
use Rattle.rank_lists.proofs.laws.one_reading.Goals as goal

pub returns : goal.returns
returns c = one_reading
