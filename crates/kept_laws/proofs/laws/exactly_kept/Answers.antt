use Rattle.kept_seats.proofs.Worth as worth
use Rattle.kept_laws.specs.Laws.{by_steps}
use Rattle.kept_laws.proofs.laws.exactly_kept.Goals as goal

pub returns : goal.returns
returns c = λ version seats guaranteed. worth.kept_is_exact guaranteed (by_steps version seats)
