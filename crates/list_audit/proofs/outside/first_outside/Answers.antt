use Rattle.std.proofs.Common.{List, take_all, subst, refl}
use Rattle.list_audit.proofs.Standing.{AreFound, all_found, found_at, outside_at}
use Rattle.office_base.specs.declared.person.Person.{Person}
use Rattle.list_audit.proofs.outside.first_outside.Goals as goal

pub returns : goal.returns
returns c =
    all_found c.args.list c.args.people.now c.args.named.now c.loop-person.next
    (subst (λ (front : List Person). AreFound c.args.list c.args.people.now c.loop-person.next front) (take_all c.loop-person.person-index c.args.named.now c.loop-person-test.false) c.loop-person.invariant)

pub returns-in-None : goal.returns-in-None
returns-in-None c =
    outside_at c.args.list c.args.people.now c.args.named.now c.loop-person.person-index c.loop-person.next _ c.requires.ranked c.requires.once c.loop-person-test.true c.loop-person.invariant
    c.in-None.ensures

pub loop-person-preserved : goal.loop-person-preserved
loop-person-preserved c =
    found_at c.args.list c.args.people.now c.args.named.now c.loop-person.person-index c.loop-person.next c.in-Some.at _ _ c.requires.ranked c.loop-person-test.true refl c.loop-person.invariant
    c.in-Some.ensures.0 c.in-Some.ensures.1 c.in-Some.ensures.2
