use Rattle.special_round.proofs.Searched.{ids_rise}
use Rattle.special_round.proofs.laws.ids_rise.Goals as goal

pub returns : goal.returns
returns c = ids_rise
