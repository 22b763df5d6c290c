use Rattle.kept_seats.proofs.Fewer as fewer
use Rattle.kept_laws.specs.Laws.{MayApplyTo, by_steps}
use Rattle.kept_laws.proofs.laws.admit_no_fewer.Goals as goal

pub returns : goal.returns
returns c = λ version seats guaranteed sound. fewer.admit_no_fewer guaranteed (by_steps version seats) (MayApplyTo seats) (c.chosen_well.ensures version seats sound) (λ p people may. may.distinct) (c.no_fewer_from_more.ensures version seats sound)
