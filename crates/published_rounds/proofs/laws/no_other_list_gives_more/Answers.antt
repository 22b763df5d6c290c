use Rattle.published_rounds.proofs.Compared as compared
use Rattle.published_rounds.proofs.laws.no_other_list_gives_more.Goals as goal

pub returns : goal.returns
returns c = compared.no_other_list_gives_more c.orderly.ensures c.truth_is_best.ensures
