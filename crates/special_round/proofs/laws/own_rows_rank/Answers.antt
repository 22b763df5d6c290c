use Rattle.special_round.proofs.Known.{finals_can_be_ranked}
use Rattle.special_round.proofs.Owned.{ranked_own}
use Rattle.special_round.proofs.laws.own_rows_rank.Goals as goal

pub returns : goal.returns
returns c = λ ranks rows table prog sound finals step. ranked_own ranks.people table rows prog (λ kind. finals_can_be_ranked ranks table rows prog kind sound finals) step
