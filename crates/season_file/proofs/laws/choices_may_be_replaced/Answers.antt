use Rattle.season_file.proofs.ReplaceLemmas.{replaceable}
use Rattle.season_file.proofs.laws.choices_may_be_replaced.Goals as goal

pub returns : goal.returns
returns c = replaceable
