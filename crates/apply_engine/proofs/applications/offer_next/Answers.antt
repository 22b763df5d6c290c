use Rattle.std.proofs.Common.{◌∙◌, ap, refl, arith, get_or, length}
use Rattle.std.proofs.lemmas.Option.{slice_get-get_or}
use Rattle.merit_choice.specs.declared.state.Offered.TheVariants.{Taken, Displaced, Refused}
use Rattle.apply_engine.proofs.Answered.{going_after, leaves_refused, leaves_taken}
use Rattle.office_base.specs.declared.person.Person.{Person}
use Rattle.open_then_category.specs.Tried.{with_one}
use Rattle.apply_engine.proofs.Tallies.{has_room, no_tally, tallied_more}
use Rattle.apply_engine.proofs.Making.{displaced, falls, free_told, given, has_left_row, known, making, offered, person_read, row_within, standing, sure_within}
use Rattle.apply_engine.proofs.applications.offer_next.Goals as goal

pub at-requires : goal.at-requires
at-requires g c = let r = c.requires.1.0 in let st = standing g.over _ _ r.set_is r.free in omega (arith, st.in_lists, ap length r.lists_is)

pub offset_bounds-next-cur : goal.offset_bounds-next-cur
offset_bounds-next-cur g c = let r = c.requires.1.0 in let st = standing g.over _ _ r.set_is r.free in omega (arith, st.few)

pub bounds-next-cur : goal.bounds-next-cur
bounds-next-cur g c = let r = c.requires.1.0 in (standing g.over _ _ r.set_is r.free).in_next

pub offset_bounds-next-cur-2 : goal.offset_bounds-next-cur-2
offset_bounds-next-cur-2 g c = let r = c.requires.1.0 in let st = standing g.over _ _ r.set_is r.free in omega (arith, st.few)

pub bounds-next-cur-2 : goal.bounds-next-cur-2
bounds-next-cur-2 g c = let r = c.requires.1.0 in (standing g.over _ _ r.set_is r.free).in_next

pub bounds-next-cur-3 : goal.bounds-next-cur-3
bounds-next-cur-3 g c = let r = c.requires.1.0 in (standing g.over _ _ r.set_is r.free).in_next

pub offset_bounds-people-cur : goal.offset_bounds-people-cur
offset_bounds-people-cur g c = let r = c.requires.1.0 in let st = standing g.over _ _ r.set_is r.free in omega (arith, st.few)

pub bounds-people-cur : goal.bounds-people-cur
bounds-people-cur g c =
    let r = c.requires.1.0 in
    let st = standing g.over _ _ r.set_is r.free in
    omega (arith, st.in_people, ap length r.people_is, ap length c.people.ensures.same)

pub offset_bounds-states-at : goal.offset_bounds-states-at
offset_bounds-states-at g c =
    let r = c.requires.1.0 in
    let m = making g.over _ _ _ _ _ c.args.cur c.from.result c.from-at.result _ _ r c.at.ensures c.from.ensures c.from-at.ensures in
    let k = known g.over _ _ _ _ _ c.args.cur c.from-at.result r m in
    omega (arith, k.1)

pub bounds-states-at : goal.bounds-states-at
bounds-states-at g c =
    let r = c.requires.1.0 in
    let m = making g.over _ _ _ _ _ c.args.cur c.from.result c.from-at.result _ _ r c.at.ensures c.from.ensures c.from-at.ensures in
    (known g.over _ _ _ _ _ c.args.cur c.from-at.result r m).0

pub offer-requires : goal.offer-requires
offer-requires g c =
    let r = c.requires.1.0 in
    let m = making g.over _ _ _ _ _ c.args.cur c.from.result c.from-at.result _ _ r c.at.ensures c.from.ensures c.from-at.ensures in
    let at = slice_get-get_or c.args.states.now c.from-at.result c.index-states-at.result (known g.over _ _ _ _ _ c.args.cur c.from-at.result r m).0 in
    offered g.over _ _ _ _ _ c.args.cur c.from-at.result _ _ r m at (person_read g.over _ _ _ _ _ _ c.args.cur c.from-at.result _ r m c.people.ensures.same)

pub unreachable-requires : goal.unreachable-requires
unreachable-requires g c =
    let r = c.requires.1.0 in
    let m = making g.over _ _ _ _ _ c.args.cur c.from.result c.from-at.result _ _ r c.at.ensures c.from.ensures c.from-at.ensures in
    let at = slice_get-get_or c.args.states.now c.from-at.result c.index-states-at.result (known g.over _ _ _ _ _ c.args.cur c.from-at.result r m).0 in
    let gv = given g.over _ _ _ _ _ c.args.cur c.from-at.result _ c.offer.new.self _ (Displaced c.in-Displaced.cand) r m at (person_read g.over _ _ _ _ _ _ c.args.cur c.from-at.result _ r m c.people.ensures.same)
    c.in-Displaced.ensures.stays c.in-Displaced.ensures.choice c.in-Displaced.ensures.answer in
    has_left_row g.over _ _ _ _ _ c.args.cur c.from-at.result _ c.offer.new.self c.in-Displaced.cand r m gv c.in_default.ensures.row

pub returns-in-Taken-clause-going : goal.returns-in-Taken-clause-going
returns-in-Taken-clause-going g c =
    let r = c.requires.1.0 in
    let m = making g.over _ _ _ _ _ c.args.cur c.from.result c.from-at.result _ _ r c.at.ensures c.from.ensures c.from-at.ensures in
    let at = slice_get-get_or c.args.states.now c.from-at.result c.index-states-at.result (known g.over _ _ _ _ _ c.args.cur c.from-at.result r m).0 in
    let gv = given g.over _ _ _ _ _ c.args.cur c.from-at.result _ c.offer.new.self _ Taken r m at (person_read g.over _ _ _ _ _ _ c.args.cur c.from-at.result _ r m c.people.ensures.same)
    c.in-Taken.ensures.stays c.in-Taken.ensures.choice c.in-Taken.ensures.answer in
    going_after g.over _ _ c.args.cur c.from-at.result _ m.s _ c.offer.new.self Taken gv

pub returns-in-Taken-clause-free : goal.returns-in-Taken-clause-free
returns-in-Taken-clause-free g c =
    let r = c.requires.1.0 in
    let m = making g.over _ _ _ _ _ c.args.cur c.from.result c.from-at.result _ _ r c.at.ensures c.from.ensures c.from-at.ensures in
    let at = slice_get-get_or c.args.states.now c.from-at.result c.index-states-at.result (known g.over _ _ _ _ _ c.args.cur c.from-at.result r m).0 in
    let gv = given g.over _ _ _ _ _ c.args.cur c.from-at.result _ c.offer.new.self _ Taken r m at (person_read g.over _ _ _ _ _ _ c.args.cur c.from-at.result _ r m c.people.ensures.same)
    c.in-Taken.ensures.stays c.in-Taken.ensures.choice c.in-Taken.ensures.answer in
    leaves_taken g.over _ _ c.args.cur c.from-at.result _ m.s _ c.offer.new.self gv

pub returns-in-Taken-clause-left : goal.returns-in-Taken-clause-left
returns-in-Taken-clause-left g c =
    let r = c.requires.1.0 in
    let m = making g.over _ _ _ _ _ c.args.cur c.from.result c.from-at.result _ _ r c.at.ensures c.from.ensures c.from-at.ensures in
    let at = slice_get-get_or c.args.states.now c.from-at.result c.index-states-at.result (known g.over _ _ _ _ _ c.args.cur c.from-at.result r m).0 in
    falls g.over _ _ c.args.cur c.from-at.result m

pub returns-in-Refused-clause-going : goal.returns-in-Refused-clause-going
returns-in-Refused-clause-going g c =
    let r = c.requires.1.0 in
    let m = making g.over _ _ _ _ _ c.args.cur c.from.result c.from-at.result _ _ r c.at.ensures c.from.ensures c.from-at.ensures in
    let at = slice_get-get_or c.args.states.now c.from-at.result c.index-states-at.result (known g.over _ _ _ _ _ c.args.cur c.from-at.result r m).0 in
    let gv = given g.over _ _ _ _ _ c.args.cur c.from-at.result _ c.offer.new.self _ Refused r m at (person_read g.over _ _ _ _ _ _ c.args.cur c.from-at.result _ r m c.people.ensures.same)
    c.in-Refused.ensures.stays c.in-Refused.ensures.choice c.in-Refused.ensures.answer in
    going_after g.over _ _ c.args.cur c.from-at.result _ m.s _ c.offer.new.self Refused gv

pub returns-in-Refused-clause-free : goal.returns-in-Refused-clause-free
returns-in-Refused-clause-free g c =
    let r = c.requires.1.0 in
    let m = making g.over _ _ _ _ _ c.args.cur c.from.result c.from-at.result _ _ r c.at.ensures c.from.ensures c.from-at.ensures in
    let at = slice_get-get_or c.args.states.now c.from-at.result c.index-states-at.result (known g.over _ _ _ _ _ c.args.cur c.from-at.result r m).0 in
    let gv = given g.over _ _ _ _ _ c.args.cur c.from-at.result _ c.offer.new.self _ Refused r m at (person_read g.over _ _ _ _ _ _ c.args.cur c.from-at.result _ r m c.people.ensures.same)
    c.in-Refused.ensures.stays c.in-Refused.ensures.choice c.in-Refused.ensures.answer in
    let leaves = leaves_refused g.over _ _ c.args.cur c.from-at.result _ m.s _ c.offer.new.self gv in
    free_told g.over _ _ c.args.cur c.args.cur c.from-at.result _ _ _ _ r.guaranteed_is c.from-at.ensures c.free_unless_kept.ensures leaves

pub returns-in-Refused-clause-left : goal.returns-in-Refused-clause-left
returns-in-Refused-clause-left g c =
    let r = c.requires.1.0 in
    let m = making g.over _ _ _ _ _ c.args.cur c.from.result c.from-at.result _ _ r c.at.ensures c.from.ensures c.from-at.ensures in
    let at = slice_get-get_or c.args.states.now c.from-at.result c.index-states-at.result (known g.over _ _ _ _ _ c.args.cur c.from-at.result r m).0 in
    falls g.over _ _ c.args.cur c.from-at.result m

pub returns-in-Some-clause-going : goal.returns-in-Some-clause-going
returns-in-Some-clause-going g c =
    let r = c.requires.1.0 in
    let m = making g.over _ _ _ _ _ c.args.cur c.from.result c.from-at.result _ _ r c.at.ensures c.from.ensures c.from-at.ensures in
    let at = slice_get-get_or c.args.states.now c.from-at.result c.index-states-at.result (known g.over _ _ _ _ _ c.args.cur c.from-at.result r m).0 in
    let gv = given g.over _ _ _ _ _ c.args.cur c.from-at.result _ c.offer.new.self _ (Displaced c.in-Displaced.cand) r m at (person_read g.over _ _ _ _ _ _ c.args.cur c.from-at.result _ r m c.people.ensures.same)
    c.in-Displaced.ensures.stays c.in-Displaced.ensures.choice c.in-Displaced.ensures.answer in
    going_after g.over _ _ c.args.cur c.from-at.result _ m.s _ c.offer.new.self (Displaced c.in-Displaced.cand) gv

pub returns-in-Some-clause-free : goal.returns-in-Some-clause-free
returns-in-Some-clause-free g c =
    let r = c.requires.1.0 in
    let m = making g.over _ _ _ _ _ c.args.cur c.from.result c.from-at.result _ _ r c.at.ensures c.from.ensures c.from-at.ensures in
    let at = slice_get-get_or c.args.states.now c.from-at.result c.index-states-at.result (known g.over _ _ _ _ _ c.args.cur c.from-at.result r m).0 in
    let gv = given g.over _ _ _ _ _ c.args.cur c.from-at.result _ c.offer.new.self _ (Displaced c.in-Displaced.cand) r m at (person_read g.over _ _ _ _ _ _ c.args.cur c.from-at.result _ r m c.people.ensures.same)
    c.in-Displaced.ensures.stays c.in-Displaced.ensures.choice c.in-Displaced.ensures.answer in
    let leaves = displaced g.over _ _ _ _ _ c.args.cur c.from-at.result _ c.offer.new.self c.in-Displaced.cand c.in-Some.place r m gv c.in-Some.ensures.row in
    free_told g.over _ _ c.args.cur c.in-Some.place c.from-at.result _ _ _ _ refl c.from-at.ensures c.free_unless_kept-in-Displaced.ensures leaves

pub returns-in-Some-clause-left : goal.returns-in-Some-clause-left
returns-in-Some-clause-left g c =
    let r = c.requires.1.0 in
    let m = making g.over _ _ _ _ _ c.args.cur c.from.result c.from-at.result _ _ r c.at.ensures c.from.ensures c.from-at.ensures in
    let at = slice_get-get_or c.args.states.now c.from-at.result c.index-states-at.result (known g.over _ _ _ _ _ c.args.cur c.from-at.result r m).0 in
    falls g.over _ _ c.args.cur c.from-at.result m

pub offset_bounds-tallies-at : goal.offset_bounds-tallies-at
offset_bounds-tallies-at g c =
    let r = c.requires.1.0 in
    let m = making g.over _ _ _ _ _ c.args.cur c.from.result c.from-at.result _ _ r c.at.ensures c.from.ensures c.from-at.ensures in
    let k = known g.over _ _ _ _ _ c.args.cur c.from-at.result r m in
    omega (arith, k.1)

pub bounds-tallies-at : goal.bounds-tallies-at
bounds-tallies-at g c =
    let r = c.requires.1.0 in
    let m = making g.over _ _ _ _ _ c.args.cur c.from.result c.from-at.result _ _ r c.at.ensures c.from.ensures c.from-at.ensures in
    omega (arith, m.try.below, c.requires.1.1.full)

pub add-requires-clause-list : goal.add-requires-clause-list
add-requires-clause-list g c =
    let r = c.requires.1.0 in
    let m = making g.over _ _ _ _ _ c.args.cur c.from.result c.from-at.result _ _ r c.at.ensures c.from.ensures c.from-at.ensures in
    let at = slice_get-get_or c.args.tallies.now c.from-at.result no_tally (omega (arith, m.try.below, c.requires.1.1.full)) in
    (has_room g.over _ _ c.from-at.result _ r.set_is c.requires.1.1 m.try.below at).list

pub add-requires-clause-common : goal.add-requires-clause-common
add-requires-clause-common g c =
    let r = c.requires.1.0 in
    let m = making g.over _ _ _ _ _ c.args.cur c.from.result c.from-at.result _ _ r c.at.ensures c.from.ensures c.from-at.ensures in
    let at = slice_get-get_or c.args.tallies.now c.from-at.result no_tally (omega (arith, m.try.below, c.requires.1.1.full)) in
    (has_room g.over _ _ c.from-at.result _ r.set_is c.requires.1.1 m.try.below at).common

pub add-requires-clause-members : goal.add-requires-clause-members
add-requires-clause-members g c =
    let r = c.requires.1.0 in
    let m = making g.over _ _ _ _ _ c.args.cur c.from.result c.from-at.result _ _ r c.at.ensures c.from.ensures c.from-at.ensures in
    let at = slice_get-get_or c.args.tallies.now c.from-at.result no_tally (omega (arith, m.try.below, c.requires.1.1.full)) in
    (has_room g.over _ _ c.from-at.result _ r.set_is c.requires.1.1 m.try.below at).members

pub returns-in-Taken-clause-tallied : goal.returns-in-Taken-clause-tallied
returns-in-Taken-clause-tallied g c =
    let r = c.requires.1.0 in
    let m = making g.over _ _ _ _ _ c.args.cur c.from.result c.from-at.result _ _ r c.at.ensures c.from.ensures c.from-at.ensures in
    let at = slice_get-get_or c.args.tallies.now c.from-at.result no_tally (omega (arith, m.try.below, c.requires.1.1.full)) in
    let person = person_read g.over _ _ _ _ _ _ c.args.cur c.from-at.result _ r m c.people.ensures.same in
    tallied_more g.over _ _ c.args.cur c.from-at.result _ m.s _ c.add.new.self c.requires.1.1 m.try at (c.add.ensures ∙ ap (λ (z : Person). with_one z (get_or c.args.tallies.now c.from-at.result no_tally)) person)

pub returns-in-Refused-clause-tallied : goal.returns-in-Refused-clause-tallied
returns-in-Refused-clause-tallied g c =
    let r = c.requires.1.0 in
    let m = making g.over _ _ _ _ _ c.args.cur c.from.result c.from-at.result _ _ r c.at.ensures c.from.ensures c.from-at.ensures in
    let at = slice_get-get_or c.args.tallies.now c.from-at.result no_tally (omega (arith, m.try.below, c.requires.1.1.full)) in
    let person = person_read g.over _ _ _ _ _ _ c.args.cur c.from-at.result _ r m c.people.ensures.same in
    tallied_more g.over _ _ c.args.cur c.from-at.result _ m.s _ c.add.new.self c.requires.1.1 m.try at (c.add.ensures ∙ ap (λ (z : Person). with_one z (get_or c.args.tallies.now c.from-at.result no_tally)) person)

pub returns-in-Some-clause-tallied : goal.returns-in-Some-clause-tallied
returns-in-Some-clause-tallied g c =
    let r = c.requires.1.0 in
    let m = making g.over _ _ _ _ _ c.args.cur c.from.result c.from-at.result _ _ r c.at.ensures c.from.ensures c.from-at.ensures in
    let at = slice_get-get_or c.args.tallies.now c.from-at.result no_tally (omega (arith, m.try.below, c.requires.1.1.full)) in
    let person = person_read g.over _ _ _ _ _ _ c.args.cur c.from-at.result _ r m c.people.ensures.same in
    tallied_more g.over _ _ c.args.cur c.from-at.result _ m.s _ c.add.new.self c.requires.1.1 m.try at (c.add.ensures ∙ ap (λ (z : Person). with_one z (get_or c.args.tallies.now c.from-at.result no_tally)) person)

pub free_unless_kept-requires : goal.free_unless_kept-requires
free_unless_kept-requires g c = let r = c.requires.1.0 in sure_within g.over _ _ _ _ _ c.args.cur r

pub free_unless_kept-requires-in-Displaced : goal.free_unless_kept-requires-in-Displaced
free_unless_kept-requires-in-Displaced g c =
    let r = c.requires.1.0 in
    let m = making g.over _ _ _ _ _ c.args.cur c.from.result c.from-at.result _ _ r c.at.ensures c.from.ensures c.from-at.ensures in
    let at = slice_get-get_or c.args.states.now c.from-at.result c.index-states-at.result (known g.over _ _ _ _ _ c.args.cur c.from-at.result r m).0 in
    let gv = given g.over _ _ _ _ _ c.args.cur c.from-at.result _ c.offer.new.self _ (Displaced c.in-Displaced.cand) r m at (person_read g.over _ _ _ _ _ _ c.args.cur c.from-at.result _ r m c.people.ensures.same)
    c.in-Displaced.ensures.stays c.in-Displaced.ensures.choice c.in-Displaced.ensures.answer in
    row_within g.over _ _ _ _ _ c.args.cur c.from-at.result _ c.offer.new.self c.in-Displaced.cand c.in-Some.place r m gv c.in-Some.ensures.row
