use Rattle.std.proofs.Common.{◌≤◌, arith, ap}
use Rattle.seat_matrix.specs.Matrix.{seating_in}
use Rattle.raised_seats.specs.Raised.{Raised}
use Rattle.office_moves.specs.Raised.{total_seats}
use Rattle.office_moves.proofs.Sums.{of_sum, sum_small}
use Rattle.raised_seats.proofs.raised.RaisedSeats.total.Goals as goal

pub returns-clause-most : goal.returns-clause-most
returns-clause-most c = omega (arith, c.self.invariant, sum_small c.self.inside.matrix c.count-count.ensures.seats)

pub returns-clause-step : goal.returns-clause-step
returns-clause-step c prog step =
    let few : (seating_in c.self.inside.matrix prog step).seats ≤ total_seats c.self.inside.matrix = of_sum c.self.inside.matrix.steps prog step in
    let same = ap (λ (r : Raised). (seating_in r.matrix prog step).seats) c.self.view_is in
    omega (arith, few, same, c.self.invariant)
