use Rattle.std.proofs.Common.{List, Some, slice_set, sym, subst}
use Rattle.office_base.specs.declared.person.Person.{Person}
use Rattle.apply_engine.specs.Made.{IsPut}
use Rattle.apply_engine.proofs.MadeLemmas.{admitted_at, no_row, put_more}
use Rattle.apply_engine.proofs.seating.put_seat.Goals as goal

pub unreachable-requires : goal.unreachable-requires
unreachable-requires c = no_row _ _ _ _ c.requires.people c.people-people.ensures.ranks.rising c.loop-person-test.true c.in_default.ensures.row

pub loop-person-preserved : goal.loop-person-preserved
loop-person-preserved c =
    let rising = c.people-people.ensures.ranks.rising in
    let one = admitted_at _ _ _ _ _ c.requires.people rising c.loop-person-test.true c.in-Some.ensures.row in
    let put = put_more _ c.args.seat _ _ _ c.in-Some.at _ rising c.requires.full one.there c.loop-person.invariant in
    subst (λ (some : List Person). IsPut c.args.register.now.people c.args.seat some c.args.seats.now (slice_set c.loop-person.seats c.in-Some.at (Some c.args.seat))) (sym one.more) put
