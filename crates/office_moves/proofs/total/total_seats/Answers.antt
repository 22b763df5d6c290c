use Rattle.std.proofs.Common.{◌≡◌, ◌+◌, ◌<◌, ℕ, length, suc, take, arith, sym, add-one, ap, ◌∙◌, subst}
use Rattle.seat_matrix.specs.declared.seats.ProgrammeSeats.{ProgrammeSeats}
use Rattle.office_moves.specs.Raised.{seats_in_all, sum_of_seats}
use Rattle.office_moves.proofs.Sums.{sum_more, sum_part, sum_small}
use Rattle.office_moves.proofs.total.total_seats.Goals as goal

pub overflow_add-total : goal.overflow_add-total
overflow_add-total c =
    let steps = c.args.matrix.now.steps in
    let i = c.loop-number.number in
    let more = sum_more steps i (omega (arith, c.loop-number-test.true, c.count-number-end.ensures.count, c.count-number-end.ensures.seats.steps)) in
    let one = c.seats_in_all-total.ensures ∙ ap (λ (s : ProgrammeSeats). seats_in_all s.steps) c.programme.ensures.seats in
    omega (arith, more, one, c.loop-number.invariant, sum_part steps (suc i), sum_small c.args.matrix.now c.count-number-end.ensures.seats)

pub loop-number-preserved : goal.loop-number-preserved
loop-number-preserved c =
    let steps = c.args.matrix.now.steps in
    let i = c.loop-number.number in
    let more = sum_more steps i (omega (arith, c.loop-number-test.true, c.count-number-end.ensures.count, c.count-number-end.ensures.seats.steps)) in
    let one = c.seats_in_all-total.ensures ∙ ap (λ (s : ProgrammeSeats). seats_in_all s.steps) c.programme.ensures.seats in
    let P : ℕ → Type 0 = λ n. c.loop-number.total + c.seats_in_all-total.result ≡ sum_of_seats (take n steps) in
    subst P (sym (add-one i)) (omega (arith, more, one, c.loop-number.invariant))

pub returns-clause-most : goal.returns-clause-most
returns-clause-most c =
    omega (arith, c.loop-number.invariant, sum_part c.args.matrix.now.steps c.loop-number.number, sum_small c.args.matrix.now c.count-number-end.ensures.seats)
