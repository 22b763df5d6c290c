use Rattle.kept_seats.proofs.Orders as orders
use Rattle.kept_laws.specs.Laws.{MayApplyTo, by_steps}
use Rattle.kept_laws.proofs.laws.one_order_one_seat.Goals as goal

pub returns : goal.returns
returns c = λ version seats sound. orders.one_seat_an_order (by_steps version seats) (MayApplyTo seats) (c.chosen_well.ensures version seats sound) (c.no_fewer_from_more.ensures version seats sound)
