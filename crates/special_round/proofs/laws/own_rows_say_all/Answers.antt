use Rattle.special_round.proofs.Owned.{all_own}
use Rattle.special_round.proofs.laws.own_rows_say_all.Goals as goal

pub returns : goal.returns
returns c = λ people rows table prog before after set. all_own people rows table prog before after set
