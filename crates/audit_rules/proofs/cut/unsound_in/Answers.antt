use Rattle.std.proofs.Common.{◌≡◌, ◌∙◌, List, Some, get_or, arith, ap}
use Rattle.std.proofs.lemmas.Option.{slice_get-get_or}
use Rattle.office_base.specs.declared.person.Person.{Person}
use Rattle.season_facts.specs.Season.{facts_of}
use Rattle.audit_rules.specs.Groups.{picked}
use Rattle.audit_rules.proofs.Seeking.{comes_to, group_has, list_within, may_be_ranked, sound_next, sound_whole, unsound_is}
use Rattle.audit_rules.proofs.cut.unsound_in.Goals as goal

pub list_fault-requires-clause-applicants : goal.list_fault-requires-clause-applicants
list_fault-requires-clause-applicants g c =
    let facts = facts_of c.args.season.now in
    let group : c.as_slice.result.now ≡ get_or c.args.groups.now c.loop-p.p c.index-groups-p.result = (let a = c.index-groups-p.is in let e = c.as_slice.ensures in cc) in
    let some = c.deref.ensures.value ∙ (c.in_ok-people.ensures ∙ ap (λ (z : List Person). picked z c.as_slice.result.now) c.people.ensures.same) in
    let are = group_has facts g.at c.args.matrix.now c.args.stands.now c.args.seats.now c.args.lists.now c.args.groups.now c.as_slice.result.now _ c.loop-p.p _ c.requires.0 c.requires.1.0 c.requires.1.1.1.1 c.loop-p-test.true group some in
    may_be_ranked c.choose_well.ensures facts g.at c.args.matrix.now c.args.stands.now c.args.seats.now c.loop-p.p _ c.requires.0 (list_within facts g.at c.args.lists.now c.loop-p.p c.requires.1.0 c.loop-p-test.true) are

pub list_fault-requires-clause-once : goal.list_fault-requires-clause-once
list_fault-requires-clause-once g c kind =
    c.requires.1.0.once c.loop-p.p _ kind (slice_get-get_or c.args.lists.now c.loop-p.p c.index-lists-p.result c.loop-p-test.true)

pub returns-in-Some : goal.returns-in-Some
returns-in-Some g c =
    let facts = facts_of c.args.season.now in
    let group : c.as_slice.result.now ≡ get_or c.args.groups.now c.loop-p.p c.index-groups-p.result = (let a = c.index-groups-p.is in let e = c.as_slice.ensures in cc) in
    let some = c.deref.ensures.value ∙ (c.in_ok-people.ensures ∙ ap (λ (z : List Person). picked z c.as_slice.result.now) c.people.ensures.same) in
    let are = group_has facts g.at c.args.matrix.now c.args.stands.now c.args.seats.now c.args.lists.now c.args.groups.now c.as_slice.result.now _ c.loop-p.p _ c.requires.0 c.requires.1.0 c.requires.1.1.1.1 c.loop-p-test.true group some in
    let read = slice_get-get_or c.args.lists.now c.loop-p.p c.index-lists-p.result c.loop-p-test.true in
    let same : c.in_ok-fault.fault ≡ Some (c.in-Some.clause, c.in-Some.cand) = (let a = c.in-Some.is in let b = c.in-Some.clause-is in let e = c.in-Some.cand-is in cc) in
    let here = comes_to facts g.at c.args.matrix.now c.args.stands.now c.args.seats.now c.loop-p.p _ _ _ _ c.requires.0 are same c.in_ok-fault.ensures in
    unsound_is facts g.at c.args.lists.now c.loop-p.p _ c.in-Some.clause c.in-Some.cand c.requires.1.0 c.requires.1.1.0 c.requires.1.1.1.0 read c.loop-p.invariant here

pub loop-p-preserved : goal.loop-p-preserved
loop-p-preserved g c =
    let facts = facts_of c.args.season.now in
    let group : c.as_slice.result.now ≡ get_or c.args.groups.now c.loop-p.p c.index-groups-p.result = (let a = c.index-groups-p.is in let e = c.as_slice.ensures in cc) in
    let some = c.deref.ensures.value ∙ (c.in_ok-people.ensures ∙ ap (λ (z : List Person). picked z c.as_slice.result.now) c.people.ensures.same) in
    let are = group_has facts g.at c.args.matrix.now c.args.stands.now c.args.seats.now c.args.lists.now c.args.groups.now c.as_slice.result.now _ c.loop-p.p _ c.requires.0 c.requires.1.0 c.requires.1.1.1.1 c.loop-p-test.true group some in
    let read = slice_get-get_or c.args.lists.now c.loop-p.p c.index-lists-p.result c.loop-p-test.true in
    let here = comes_to facts g.at c.args.matrix.now c.args.stands.now c.args.seats.now c.loop-p.p _ _ _ _ c.requires.0 are c.in_default.is c.in_ok-fault.ensures in
    sound_next facts g.at c.args.lists.now c.loop-p.p _ c.requires.1.0 read c.loop-p.invariant here

pub returns : goal.returns
returns g c =
    sound_whole (facts_of c.args.season.now) g.at c.args.lists.now c.loop-p.p c.requires.1.0 (omega (arith, c.loop-p-test.false)) c.loop-p.invariant
