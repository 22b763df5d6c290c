use Rattle.kept_seats.proofs.Worth as worth
use Rattle.kept_laws.specs.Laws.{MayApplyTo, by_steps}
use Rattle.kept_laws.proofs.laws.guaranteed_never_fall.Goals as goal

pub returns : goal.returns
returns c = λ version seats guaranteed sound. worth.nobody_guaranteed_falls guaranteed (by_steps version seats) (MayApplyTo seats) (c.chosen_well.ensures version seats sound)
