use Rattle.kept_seats.proofs.Worth as worth
use Rattle.kept_laws.specs.Laws.{MayApplyTo, by_steps}
use Rattle.kept_laws.proofs.laws.no_need_no_change.Goals as goal

pub returns : goal.returns
returns c = λ version seats guaranteed sound. worth.nothing_changes_without_need guaranteed (by_steps version seats) (MayApplyTo seats) (c.chosen_well.ensures version seats sound)
