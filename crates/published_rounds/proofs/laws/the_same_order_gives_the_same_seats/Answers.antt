use Rattle.published_rounds.proofs.Paired as paired
use Rattle.published_rounds.proofs.laws.the_same_order_gives_the_same_seats.Goals as goal

pub returns : goal.returns
returns c = paired.the_same_order_gives_the_same_seats c.only_the_order_counts.ensures
