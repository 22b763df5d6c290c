use Rattle.kept_seats.proofs.Worth as worth
use Rattle.kept_laws.specs.Laws.{by_steps}
use Rattle.kept_laws.proofs.laws.steps_stay.Goals as goal

pub returns : goal.returns
returns c = λ version seats guaranteed. worth.steps_choose_as_ever guaranteed (by_steps version seats)
