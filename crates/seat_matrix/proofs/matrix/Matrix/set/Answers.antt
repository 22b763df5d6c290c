use Rattle.std.proofs.Common.{◌≡◌, ◌<◌, ◌∙◌, ap, get_or, length, set, sym, subst, arith}
use Rattle.std.proofs.lemmas.List.{get_or_read}
use Rattle.seat_matrix.specs.Matrix.{AreSeats, SeatTable}
use Rattle.seat_matrix.specs.Seats.{no_seatings, with_seating}
use Rattle.seat_matrix.specs.declared.seats.Seating.{Seating}
use Rattle.seat_matrix.specs.declared.seats.Seatings.{Seatings}
use Rattle.seat_matrix.proofs.SeatsLemmas.{with_sound}
use Rattle.seat_matrix.proofs.matrix.Matrix.set.Goals as goal

pub invariant_of-self : goal.invariant_of-self
invariant_of-self c =
    let seating : Seating = record { seats = c.args.seats; protections = c.args.protections } in
    let before : SeatTable = record { programmes = c.self.inside.programmes.items; steps = c.self.inside.steps.items } in
    let count = ap (λ (table : SeatTable). length table.programmes) c.self.view_is in
    let below : c.from.result < length c.self.inside.steps.items = omega (arith, count, c.requires.programme, c.from.ensures, c.self.invariant.sound.steps) in
    let read : c.index_mut.result.now ≡ get_or c.self.inside.steps.items c.from.result no_seatings = get_or_read c.self.inside.steps.items c.from.result c.index_mut.result.now below c.index_mut.ensures.value no_seatings in
    let put = c.put.ensures ∙ ap (λ (steps : Seatings). with_seating steps c.args.step seating) read in
    record {
      sound = subst (λ (steps : Seatings). AreSeats (record { programmes = c.self.inside.programmes.items; steps = set c.self.inside.steps.items c.from.result steps })) (sym put)
          (with_sound before c.from.result c.args.step seating c.self.invariant.sound (omega (arith, below, c.self.invariant.sound.steps)) (record { protections = c.requires.protections; seats = c.requires.most }));
      sorted = c.self.invariant.sorted;
      numbers = c.self.invariant.numbers;
    }
