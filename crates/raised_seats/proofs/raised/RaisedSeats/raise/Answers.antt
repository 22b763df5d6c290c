use Rattle.std.proofs.Common.{◌≡◌, ◌≤◌, ◌<◌, length, ap, arith, sym, subst, ◌∙◌}
use Rattle.seat_matrix.specs.Matrix.{AreSeats, SeatTable, seating_in}
use Rattle.raised_seats.specs.Raised.{Raised}
use Rattle.office_moves.specs.Raised.{raised_to, total_seats}
use Rattle.raised_seats.proofs.Sums.{sum_raised}
use Rattle.raised_seats.proofs.raised.RaisedSeats.raise.Goals as goal

pub invariant_of-self : goal.invariant_of-self
invariant_of-self c =
    let row = c.args.row in
    let table = c.self.inside.matrix in
    let same : table ≡ c.args.self.now.matrix = ap (λ (r : Raised). r.matrix) c.self.view_is in
    let seats : AreSeats table = subst AreSeats (sym same) c.total.ensures.seats in
    let below : row.prog.0 < length table.programmes = subst (λ (t : SeatTable). row.prog.0 < length t.programmes) (sym same) c.requires.programme in
    let more : (seating_in table row.prog.0 row.step).seats ≤ row.seats = subst (λ (t : SeatTable). (seating_in t row.prog.0 row.step).seats ≤ row.seats) (sym same) c.requires.more in
    let total : c.total.result ≡ total_seats table = c.total.ensures.total ∙ ap total_seats (sym same) in
    let rises : c.seats-before.result ≤ row.seats = omega (arith, more, c.seats-before.ensures.seats) in
    sum_raised table c.raise.new.self row.prog.0 row.step (raised_to (seating_in table row.prog.0 row.step) row.seats) c.total.result c.seats-before.result c.from.result seats below c.requires.step
    c.raise.ensures.whole total c.seats-before.ensures.seats rises c.from.ensures
