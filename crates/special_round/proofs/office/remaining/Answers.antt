use Rattle.special_round.proofs.Placing.{known_there}
use Rattle.special_round.proofs.office.remaining.Goals as goal

pub left_season-requires-clause-finals : goal.left_season-requires-clause-finals
left_season-requires-clause-finals g c =
    let office = c.args.office.now in
    known_there office.season c.season.result.now c.matrix.result.now office.state c.in-Some.finals.now c.finals_are_known.ensures c.is_in_order.ensures.sound c.is_in_order.ensures.orderly
    (rw c.in-Some.is at c.finals.ensures) c.season.ensures c.matrix.ensures.same
