use Rattle.kept_seats.proofs.Kept as kept
use Rattle.kept_laws.specs.Laws.{MayApplyTo, by_steps}
use Rattle.kept_laws.proofs.laws.choose_well.Goals as goal

pub returns : goal.returns
returns c = λ version seats guaranteed sound. kept.choose_well guaranteed (by_steps version seats) (MayApplyTo seats) (c.chosen_well.ensures version seats sound)
