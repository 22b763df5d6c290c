use Rattle.std.proofs.Common.{◌≡◌, ◌<◌, List, length, get_or, arith, ap, subst, sym}
use Rattle.office_base.specs.declared.person.Person.{Person}
use Rattle.choice_lists.specs.Choices.{list_of}
use Rattle.season_facts.specs.Season.{facts_of}
use Rattle.audit_rules.specs.Cut.{IsSought, IsUnsought}
use Rattle.audit_rules.proofs.Seeking.{is_below, is_own, is_seated, is_sought, is_unsought, nobody_there, of_each, sought_next}
use Rattle.audit_rules.proofs.sought.first_unsought.Goals as goal

pub unsought-requires-clause-seated : goal.unsought-requires-clause-seated
unsought-requires-clause-seated g c keeps =
    let same = c.people-person-items.ensures.same in
    let less : c.loop-k.k < length c.args.season.now.register.people = omega (arith, c.loop-k-test.true, ap length same) in
    is_seated (facts_of c.args.season.now) g.at c.args.matrix.now c.args.stands.now c.args.seats.now c.loop-k.k _ c.requires less keeps

pub unsought-requires-clause-own : goal.unsought-requires-clause-own
unsought-requires-clause-own g c held has =
    let same = c.people-person-items.ensures.same in
    let less : c.loop-k.k < length c.args.season.now.register.people = omega (arith, c.loop-k-test.true, ap length same) in
    let own = subst (λ (z : List Person). c.list_near-list.result.now ≡ list_of c.args.season.now.choices (get_or z c.loop-k.k nobody_there).id.0) same c.list_near-list.ensures.list in
    is_own (facts_of c.args.season.now) g.at c.args.matrix.now c.args.stands.now c.args.seats.now c.loop-k.k _ nobody_there c.list_near-list.result.now held c.requires less own has

pub unsought-requires-clause-below : goal.unsought-requires-clause-below
unsought-requires-clause-below g c =
    let same = c.people-person-items.ensures.same in
    let less : c.loop-k.k < length c.args.season.now.register.people = omega (arith, c.loop-k-test.true, ap length same) in
    let own = subst (λ (z : List Person). c.list_near-list.result.now ≡ list_of c.args.season.now.choices (get_or z c.loop-k.k nobody_there).id.0) same c.list_near-list.ensures.list in
    is_below (facts_of c.args.season.now) g.at c.args.matrix.now c.args.stands.now c.args.seats.now c.loop-k.k nobody_there c.list_near-list.result.now c.requires less own

pub returns-in-Some-clause-some : goal.returns-in-Some-clause-some
returns-in-Some-clause-some g c =
    let same = c.people-person-items.ensures.same in
    let less : c.loop-k.k < length c.args.season.now.register.people = omega (arith, c.loop-k-test.true, ap length same) in
    let own = subst (λ (z : List Person). c.list_near-list.result.now ≡ list_of c.args.season.now.choices (get_or z c.loop-k.k nobody_there).id.0) same c.list_near-list.ensures.list in
    subst (λ (z : List Person). IsUnsought (facts_of c.args.season.now) g.at.papers g.at.state c.in-Some.prog (get_or z c.loop-k.k nobody_there).id) (sym same)
    (is_unsought (facts_of c.args.season.now) g.at c.args.matrix.now c.args.stands.now c.args.seats.now c.loop-k.k _ _ nobody_there c.list_near-list.result.now c.in-Some.prog c.requires less own
    c.in-Some.ensures.some.0 c.in-Some.ensures.some.1 c.loop-k.invariant)

pub loop-k-preserved : goal.loop-k-preserved
loop-k-preserved g c =
    let same = c.people-person-items.ensures.same in
    let less : c.loop-k.k < length c.args.season.now.register.people = omega (arith, c.loop-k-test.true, ap length same) in
    let own = subst (λ (z : List Person). c.list_near-list.result.now ≡ list_of c.args.season.now.choices (get_or z c.loop-k.k nobody_there).id.0) same c.list_near-list.ensures.list in
    sought_next (IsSought (facts_of c.args.season.now) g.at.papers g.at.state) c.args.season.now.register.people c.loop-k.k nobody_there less c.loop-k.invariant
    (is_sought (facts_of c.args.season.now) g.at c.args.matrix.now c.args.stands.now c.args.seats.now c.loop-k.k _ _ nobody_there c.list_near-list.result.now c.requires less own c.in_default.ensures.none)

pub returns-clause-none : goal.returns-clause-none
returns-clause-none g c =
    of_each (IsSought (facts_of c.args.season.now) g.at.papers g.at.state) c.args.season.now.register.people c.loop-k.k
    (omega (arith, c.loop-k-test.false, ap length c.people-person-items.ensures.same)) c.loop-k.invariant
