use Rattle.std.proofs.Common.{◌≡◌, ◌<◌, List, None, length, get_or, arith, ap, subst, sym}
use Rattle.std.proofs.lemmas.Option.{slice_get-get_or}
use Rattle.office_base.specs.declared.person.Person.{Person}
use Rattle.allocations.specs.Market.{rank_of}
use Rattle.choice_lists.specs.Choices.{list_of}
use Rattle.season_facts.specs.Season.{facts_of}
use Rattle.best_audit.specs.Best.{GainsFirst}
use Rattle.best_audit.proofs.Gaining.{full_best, full_seats, gains_first, left_is, nobody_gains, nobody_next, seeker_is}
use Rattle.best_audit.proofs.Seeking.{nobody_there}
use Rattle.best_audit.proofs.compare.first_gain.Goals as goal

pub returns-then-rank_of : goal.returns-then-rank_of
returns-then-rank_of g c =
    let facts = facts_of c.args.season.now in
    let same = c.people-person-items.ensures.same in
    let less : c.loop-k.k < length c.args.season.now.register.people = omega (arith, c.loop-k-test.true, ap length same) in
    let own = subst (λ (z : List Person). c.list_near-list.result.now ≡ list_of c.args.season.now.choices (get_or z c.loop-k.k nobody_there).id.0) same c.list_near-list.ensures.list in
    let made = left_is c.args.matrix.now c.list_near-list.result.now _ _ _ _ c.as_slice-left.ensures.value c.in_ok-push_left.ensures c.clear.ensures.items in
    let seeker = seeker_is facts g.at c.args.matrix.now c.args.seeks.now c.args.best.now c.args.seats.now c.loop-k.k _ nobody_there c.list_near-list.result.now c.as_slice-left.result.now c.requires less own made in
    let all = full_best facts g.at c.args.matrix.now c.args.seeks.now c.args.best.now c.args.seats.now c.requires in
    let told = full_seats facts g.at c.args.matrix.now c.args.seeks.now c.args.best.now c.args.seats.now c.requires in
    let better : rank_of c.as_slice-left.result.now (get_or c.args.best.now c.loop-k.k None) < rank_of c.as_slice-left.result.now (get_or c.args.seats.now c.loop-k.k None) =
    (let a = c.rank_of.ensures in let b = c.rank_of-in-loop-k.ensures in let e = c.if-rank_of.true in omega (arith, a, b, e)) in
    subst (λ (z : List Person). GainsFirst facts g.at.papers g.at.state (get_or z c.loop-k.k nobody_there).id) (sym same)
    (gains_first facts g.at c.args.matrix.now c.args.seeks.now c.args.best.now c.args.seats.now c.loop-k.k _ _ c.as_slice-left.result.now (get_or facts.people c.loop-k.k nobody_there) c.requires seeker
    (slice_get-get_or c.args.best.now c.loop-k.k _ (omega (arith, less, all))) (slice_get-get_or c.args.seats.now c.loop-k.k _ (omega (arith, less, told)))
    better c.loop-k.invariant)

pub loop-k-preserved : goal.loop-k-preserved
loop-k-preserved g c =
    let facts = facts_of c.args.season.now in
    let same = c.people-person-items.ensures.same in
    let less : c.loop-k.k < length c.args.season.now.register.people = omega (arith, c.loop-k-test.true, ap length same) in
    let own = subst (λ (z : List Person). c.list_near-list.result.now ≡ list_of c.args.season.now.choices (get_or z c.loop-k.k nobody_there).id.0) same c.list_near-list.ensures.list in
    let made = left_is c.args.matrix.now c.list_near-list.result.now _ _ _ _ c.as_slice-left.ensures.value c.in_ok-push_left.ensures c.clear.ensures.items in
    let seeker = seeker_is facts g.at c.args.matrix.now c.args.seeks.now c.args.best.now c.args.seats.now c.loop-k.k _ nobody_there c.list_near-list.result.now c.as_slice-left.result.now c.requires less own made in
    let all = full_best facts g.at c.args.matrix.now c.args.seeks.now c.args.best.now c.args.seats.now c.requires in
    let told = full_seats facts g.at c.args.matrix.now c.args.seeks.now c.args.best.now c.args.seats.now c.requires in
    let no_better : rank_of c.as_slice-left.result.now (get_or c.args.best.now c.loop-k.k None) < rank_of c.as_slice-left.result.now (get_or c.args.seats.now c.loop-k.k None) → ⊥ =
    (λ better. let a = c.rank_of.ensures in let b = c.rank_of-in-loop-k.ensures in let e = c.if-rank_of.false in omega (arith, a, b, e, better)) in
    nobody_next facts g.at.state c.args.best.now c.args.seats.now c.loop-k.k _ _ c.as_slice-left.result.now (get_or facts.people c.loop-k.k nobody_there) seeker
    (slice_get-get_or c.args.best.now c.loop-k.k _ (omega (arith, less, all))) (slice_get-get_or c.args.seats.now c.loop-k.k _ (omega (arith, less, told)))
    no_better c.loop-k.invariant

pub returns : goal.returns
returns g c =
    nobody_gains (facts_of c.args.season.now) g.at c.args.matrix.now c.args.seeks.now c.args.best.now c.args.seats.now c.loop-k.k c.requires
    (omega (arith, c.loop-k-test.false, ap length c.people-person-items.ensures.same)) c.loop-k.invariant
