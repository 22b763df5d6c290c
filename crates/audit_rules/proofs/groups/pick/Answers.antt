use Rattle.std.proofs.Common.{◌≡◌, ◌∙◌, ◌++◌, [], Option, Some, None, append-nil, ap, get_or, sym}
use Rattle.std.specs.Prelude.{slice_get}
use Rattle.office_base.specs.declared.person.Person.{Person}
use Rattle.audit_rules.specs.Groups.{with_one}
use Rattle.audit_rules.proofs.Grouping.{picked_more}
use Rattle.audit_rules.proofs.groups.pick.Goals as goal

pub loop-at-preserved-in_default : goal.loop-at-preserved-in_default
loop-at-preserved-in_default c =
    let some = c.loop-at.some.items in
    let none : slice_get c.args.people.now (get_or c.args.places.now c.loop-at.at-index 0) ≡ None = sym c.person_at.ensures ∙ c.in_default.is in
    picked_more c.args.people.now c.args.places.now c.loop-at.at-index 0 some some c.loop-at-test.true c.loop-at.invariant
    (sym (append-nil some) ∙ ap (λ (o : Option Person). some ++ with_one o []) (sym none))

pub loop-at-preserved : goal.loop-at-preserved
loop-at-preserved c =
    let some = c.loop-at.some.items in
    let here : slice_get c.args.people.now (get_or c.args.places.now c.loop-at.at-index 0) ≡ Some c.in-Some.person = sym c.person_at.ensures ∙ c.in-Some.is in
    picked_more c.args.people.now c.args.places.now c.loop-at.at-index 0 some _ c.loop-at-test.true c.loop-at.invariant
    (c.in_ok-push.ensures.items ∙ ap (λ (o : Option Person). some ++ with_one o []) (sym here))
