use Rattle.kept_seats.proofs.Newly as newly
use Rattle.kept_laws.specs.Laws.{MayApplyTo, by_steps}
use Rattle.kept_laws.proofs.laws.no_order_none_kept.Goals as goal

pub returns : goal.returns
returns c = λ version seats more sound more_sound raised. newly.nobody_newly_kept (by_steps version seats) (by_steps version more) (MayApplyTo seats) (c.chosen_well.ensures version seats sound) (c.grows_with_seats.ensures version seats more sound more_sound raised)
