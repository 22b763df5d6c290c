use Rattle.std.proofs.Common.{◌≡◌, ◌<◌, ◌+◌, ◌∙◌, ℕ, List, length, get_or, arith, ap, subst, sym}
use Rattle.office_base.specs.declared.person.Person.{Person}
use Rattle.office_base.proofs.Lists.{whole_again}
use Rattle.choice_lists.specs.Choices.{list_of}
use Rattle.season_facts.specs.Season.{facts_of}
use Rattle.audit_rules.specs.Cut.{seekers_at}
use Rattle.audit_rules.proofs.Grouping.{Grouping}
use Rattle.audit_rules.proofs.Seeking.{grouped_next, grouped_whole, leaves_below, leaves_once, left_is, nobody_there}
use Rattle.audit_rules.proofs.groups.applicants.Goals as goal

pub apply-requires-clause-below : goal.apply-requires-clause-below
apply-requires-clause-below g c =
    let same = c.people-person-items.ensures.same in
    let less : c.loop-k.k < length c.args.season.now.register.people = omega (arith, c.loop-k-test.true, ap length same) in
    let own = subst (λ (z : List Person). c.list_near-list.result.now ≡ list_of c.args.season.now.choices (get_or z c.loop-k.k nobody_there).id.0) same c.list_near-list.ensures.list in
    let made = left_is c.args.matrix.now c.list_near-list.result.now _ _ _ _ _ c.deref.ensures.value c.in_ok-push_left.ensures c.clear.ensures.items c.seek_of.ensures in
    leaves_below (facts_of c.args.season.now) g.at c.args.matrix.now c.args.stands.now c.args.seats.now c.loop-k.k _ nobody_there c.list_near-list.result.now c.deref.result.now
    (length c.deref_mut.result.now) c.requires less own made (ap length c.deref_mut.ensures.value ∙ c.loop-k.invariant.full)

pub apply-requires-clause-distinct : goal.apply-requires-clause-distinct
apply-requires-clause-distinct g c =
    let same = c.people-person-items.ensures.same in
    let less : c.loop-k.k < length c.args.season.now.register.people = omega (arith, c.loop-k-test.true, ap length same) in
    let own = subst (λ (z : List Person). c.list_near-list.result.now ≡ list_of c.args.season.now.choices (get_or z c.loop-k.k nobody_there).id.0) same c.list_near-list.ensures.list in
    let made = left_is c.args.matrix.now c.list_near-list.result.now _ _ _ _ _ c.deref.ensures.value c.in_ok-push_left.ensures c.clear.ensures.items c.seek_of.ensures in
    leaves_once (facts_of c.args.season.now) g.at c.args.matrix.now c.args.stands.now c.args.seats.now c.loop-k.k _ nobody_there c.list_near-list.result.now c.deref.result.now
    c.requires less own made

pub loop-k-preserved : goal.loop-k-preserved
loop-k-preserved g c =
    let same = c.people-person-items.ensures.same in
    let less : c.loop-k.k < length c.args.season.now.register.people = omega (arith, c.loop-k-test.true, ap length same) in
    let own = subst (λ (z : List Person). c.list_near-list.result.now ≡ list_of c.args.season.now.choices (get_or z c.loop-k.k nobody_there).id.0) same c.list_near-list.ensures.list in
    let made = left_is c.args.matrix.now c.list_near-list.result.now _ _ _ _ _ c.deref.ensures.value c.in_ok-push_left.ensures c.clear.ensures.items c.seek_of.ensures in
    let full : length c.apply.new.groups ≡ length c.loop-k.groups.items = c.in_ok-apply.ensures.full ∙ ap length c.deref_mut.ensures.value in
    let count = length c.args.season.now.matrix.programmes in
    let seekers = seekers_at (facts_of c.args.season.now) g.at.state in
    let before = subst (λ (z : List (List ℕ)). Grouping count c.loop-k.k seekers c.args.seats.now z) (sym c.deref_mut.ensures.value) c.loop-k.invariant in
    subst (λ (z : List (List ℕ)). Grouping count (c.loop-k.k + 1) seekers c.args.seats.now z) (sym (whole_again c.apply.new.groups c.loop-k.groups.items c.loop-k.groups.len full c.loop-k.groups.ok.0))
    (grouped_next (facts_of c.args.season.now) g.at c.args.matrix.now c.args.stands.now c.args.seats.now c.loop-k.k _ _ nobody_there c.list_near-list.result.now c.deref.result.now
    count c.deref_mut.result.now c.apply.new.groups c.requires less own made before c.in_ok-apply.ensures.full c.in_ok-apply.ensures.each)

pub returns : goal.returns
returns g c =
    grouped_whole (facts_of c.args.season.now) g.at c.args.matrix.now c.args.stands.now c.args.seats.now c.loop-k.k (length c.args.season.now.matrix.programmes) c.loop-k.groups.items c.requires
    (omega (arith, c.loop-k-test.false, ap length c.people-person-items.ensures.same)) c.loop-k.invariant
