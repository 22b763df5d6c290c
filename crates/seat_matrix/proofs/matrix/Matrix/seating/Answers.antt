use Rattle.std.proofs.Common.{◌≡◌, ◌<◌, ◌∙◌, ap, get_or, length, sym, subst, arith}
use Rattle.std.proofs.lemmas.List.{get_or_read}
use Rattle.seat_matrix.specs.Matrix.{SeatTable}
use Rattle.seat_matrix.specs.Seats.{IsSeated, no_seatings, of_step}
use Rattle.seat_matrix.specs.declared.seats.Seatings.{Seatings}
use Rattle.seat_matrix.proofs.matrix.Matrix.seating.Goals as goal

pub returns-clause-within : goal.returns-clause-within
returns-clause-within c =
    let count = ap (λ (table : SeatTable). length table.programmes) c.self.view_is in
    let below : c.from.result < length c.self.inside.steps.items = omega (arith, count, c.requires, c.from.ensures, c.self.invariant.sound.steps) in
    let read : c.index.result.now ≡ get_or c.self.inside.steps.items c.from.result no_seatings = get_or_read c.self.inside.steps.items c.from.result c.index.result.now below c.index.ensures no_seatings in
    let given = c.of.ensures ∙ ap (λ (steps : Seatings). of_step steps c.args.step) read in
    subst IsSeated (sym given) ((c.self.invariant.sound.sound c.from.result (omega (arith, below, c.self.invariant.sound.steps))).steps c.args.step)
