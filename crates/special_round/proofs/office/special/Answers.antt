use Rattle.special_round.proofs.Placing.{fit_there, known_there}
use Rattle.special_round.proofs.office.special.Goals as goal

pub special_over-requires-clause-finals : goal.special_over-requires-clause-finals
special_over-requires-clause-finals g c =
    let office = c.args.office.now in
    known_there office.season c.season.result.now c.matrix.result.now office.state c.in-Some.finals.now c.finals_are_known.ensures c.is_in_order.ensures.sound c.is_in_order.ensures.orderly
    (rw c.in-Some.is at c.finals.ensures) c.season.ensures c.matrix.ensures.same

pub special_over-requires-clause-fit : goal.special_over-requires-clause-fit
special_over-requires-clause-fit g c =
    let office = c.args.office.now in
    fit_there office.season c.season.result.now c.matrix.result.now office.state c.in-Some.finals.now c.finals_fit.ensures c.is_in_order.ensures.sound c.is_in_order.ensures.orderly
    (rw c.in-Some.is at c.finals.ensures) c.season.ensures c.matrix.ensures.same
