use Rattle.std.proofs.Common.{◌∙◌, List, subst, sym, arith, get_or}
use Rattle.std.proofs.lemmas.Option.{slice_get-get_or}
use Rattle.office_base.specs.Lists.{IsAmong}
use Rattle.office_base.specs.declared.person.Person.{Person}
use Rattle.office_base.specs.declared.seat.SeatKind.TheVariants.{Under}
use Rattle.allocations.specs.Market.{seat_at}
use Rattle.apply_engine.specs.Made.{IsPut}
use Rattle.apply_engine.proofs.SeatLemmas.{shows_at, step_more}
use Rattle.apply_engine.proofs.seating.put_programme.Goals as goal

pub put_seat-requires-clause-people : goal.put_seat-requires-clause-people
put_seat-requires-clause-people c =
    let j = c.loop-list.list-index in
    let steps = c.args.programme.now.steps in
    let list = get_or steps j c.list-item.result in
    let there = slice_get-get_or steps j c.list-item.result (omega (arith, c.loop-list-test.true, c.type_inv.list-items)) in
    let mine = shows_at c.args.programme.now j list c.requires.in_order there in
    λ person among. c.requires.of_people list.kind person (subst (λ (l : List Person). IsAmong person l) (c.as_slice.ensures ∙ sym mine) among)

pub loop-list-preserved : goal.loop-list-preserved
loop-list-preserved c =
    let j = c.loop-list.list-index in
    let steps = c.args.programme.now.steps in
    let list = get_or steps j c.list-item.result in
    let there = slice_get-get_or steps j c.list-item.result (omega (arith, c.loop-list-test.true, c.type_inv.list-items)) in
    let put = subst (λ (l : List Person). IsPut c.args.register.now.people (seat_at c.args.prog.0 (Under list.kind)) l c.loop-list.seats c.put_seat.new.seats) c.as_slice.ensures c.put_seat.ensures in
    step_more _ _ j _ list _ _ _ c.requires.in_order c.requires.once there c.loop-list.invariant put
