-- Published rounds compared with other fair allocations, with other lists, and with more seats.
use Rattle.std.proofs.Common.{◌≡◌, ◌≤◌, suc, Some, arith, sym, ap, ◌∙◌, subst}
use Rattle.std.proofs.lemmas.Option.{slice_get_within}
use Rattle.office_base.specs.declared.person.Person.{Person}
use Rattle.office_base.proofs.Lists.{there_is}
use Rattle.allocations.specs.Market.{rank_of}
use Rattle.seeks.specs.Seek.{seek_leaves}
use Rattle.seeks.proofs.Left.{leaves_same}
use Rattle.round_laws.specs.Laws as theory
use Rattle.office_moves.specs.Facts.{SeasonFacts, lists_in_order}
use Rattle.office_moves.specs.Promise.{all_sought_then, sought_then}
use Rattle.office_moves.specs.State.{seat_of}
use Rattle.history_laws.proofs.Entering.{list_there, lists_full}
use Rattle.history_laws.proofs.Fits.{map_at}
use Rattle.rounds.specs.Rule.{nobody}
use Rattle.published_rounds.specs.Laws.{MoreSeatsHurtNobody, NoOtherListGivesMore, SameAreSeated}
use Rattle.published_rounds.specs.Published.{matrix_then, wanted_then}
use Rattle.published_rounds.proofs.Places.{AreOrderly, order_of, in_round, made_then, may_enter, place_among}

pub same_are_seated : AreOrderly → theory.FairRoundsSeatAlike → (facts : SeasonFacts) → SameAreSeated facts
same_are_seated orderly alike facts entries state window round others published fair =
    let order = order_of orderly facts entries state window round published in
    let made = made_then facts state window round order published.there in
    alike facts.version nobody (matrix_then facts state window) facts.people (lists_in_order facts) (all_sought_then facts state window) round.seats others (order.course.seats (suc window))
    (may_enter facts state window published.sound order) made.best.fair fair

pub no_other_list_gives_more : AreOrderly → theory.TruthIsBest → (facts : SeasonFacts) → NoOtherListGivesMore facts
no_other_list_gives_more orderly truth facts entries state window round i person told sought others other published at enter otherwise fair has =
    let order = order_of orderly facts entries state window round published in
    let made = made_then facts state window round order published.there in
    let mine = in_round facts state window i round person published.sound order published.there at in
    let result : rank_of mine.s.list mine.seat ≤ rank_of mine.s.list other =
    truth facts.version nobody (matrix_then facts state window) facts.people (lists_in_order facts) told (all_sought_then facts state window) sought round.seats others i mine.s mine.seat other
    (order.course.seats (suc window)) (may_enter facts state window published.sound order) enter otherwise made.best fair mine.there mine.has has in
    let by_list = subst (λ l. rank_of l mine.seat ≤ rank_of l other) mine.list_is result in
    let list = wanted_then facts state window person.id.0 in
    subst (λ o. rank_of list o ≤ rank_of list other) (sym mine.seat_is) by_list

pub more_seats_hurt_nobody : AreOrderly → theory.MoreSeatsHurtNobody → (facts : SeasonFacts) → MoreSeatsHurtNobody facts
more_seats_hurt_nobody orderly more_seats facts entries others state other window round later person published published' raised leave here same =
    let sound = published.sound in
    let order = order_of orderly facts entries state window round published in
    let order' = order_of orderly facts others other window later published' in
    let made = made_then facts state window round order published.there in
    let made' = made_then facts other window later order' published'.there in
    let i = place_among facts.people person here in
    let mine = in_round facts state window i.0 round person sound order published.there i.1 in
    let his = in_round facts other window i.0 later person sound order' published'.there i.1 in
    let less = slice_get_within facts.people i.0 person i.1 in
    let full = lists_full facts sound in
    let list = there_is (lists_in_order facts) i.0 (omega (arith, less, full)) in
    let own = list_there facts i.0 person list.0 sound i.1 list.1 in
    let seek = sought_then facts state window person.id.0 in
    let sought = map_at (λ (q : Person). sought_then facts state window q.id.0) facts.people i.0 person i.1 in
    let sought' = map_at (λ (q : Person). sought_then facts other window q.id.0) facts.people i.0 person i.1 ∙ ap Some same in
    let table = matrix_then facts state window in
    let result : rank_of (seek_leaves table seek list.0) his.seat ≤ rank_of (seek_leaves table seek list.0) mine.seat =
    more_seats facts.version nobody nobody table (matrix_then facts other window) facts.people (lists_in_order facts) (all_sought_then facts state window) (all_sought_then facts other window)
    round.seats later.seats i.0 list.0 seek mine.seat his.seat (λ p person sure. sure) (order.course.seats (suc window)) (order'.course.seats (suc window)) raised (may_enter facts state window sound order) leave list.1 sought sought'
    made.best.fair made'.best mine.has his.has in
    let wanted : seek_leaves table seek list.0 ≡ wanted_then facts state window person.id.0 =
    leaves_same facts.matrix table seek list.0 (order.course.programmes (suc window)) ∙ ap (λ l. seek_leaves facts.matrix seek l) (sym own) in
    let by_list = subst (λ l. rank_of l his.seat ≤ rank_of l mine.seat) wanted result in
    let by_seat = subst (λ o. rank_of (wanted_then facts state window person.id.0) o ≤ rank_of (wanted_then facts state window person.id.0) mine.seat) (sym his.seat_is) by_list in
    subst (λ o. rank_of (wanted_then facts state window person.id.0) (seat_of facts (Some later) person.id.0) ≤ rank_of (wanted_then facts state window person.id.0) o) (sym mine.seat_is) by_seat
