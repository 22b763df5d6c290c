use Rattle.std.proofs.Common.{List, take, take_all, drop, suc, refl, subst}
use Rattle.std.proofs.lemmas.Bool.{both_ways}
use Rattle.std.specs.List.{AllByRecursion}
use Rattle.office_base.specs.declared.person.Person.{Person}
use Rattle.list_audit.specs.Reckoning.{AreWorst, IsAhead}
use Rattle.list_audit.proofs.ListPlaces.{all_at_place, all_taken_next, split_at_place}
use Rattle.list_audit.proofs.ahead.first_ahead.Goals as goal

pub is_ahead-requires-clause-worst : goal.is_ahead-requires-clause-worst
is_ahead-requires-clause-worst c =
    subst (λ (members : List Person). AreWorst c.args.list members c.worst_by_sets-worst.result) c.members.ensures c.worst_by_sets-worst.ensures

pub is_ahead-requires-clause-may : goal.is_ahead-requires-clause-may
is_ahead-requires-clause-may c = all_at_place _ c.args.people.now c.loop-person.person-index _ c.loop-person-test.true c.requires.may

pub is_ahead-requires-clause-cannot : goal.is_ahead-requires-clause-cannot
is_ahead-requires-clause-cannot c = all_at_place _ c.args.people.now c.loop-person.person-index _ c.loop-person-test.true c.requires.cannot

pub loop-person-preserved : goal.loop-person-preserved
loop-person-preserved c listed r =
    all_taken_next (λ (person : Person). IsAhead c.args.list c.args.reckoning.now.needed.protections listed c.args.reckoning.now.needed.members person → ⊥) c.args.people.now c.loop-person.person-index _
    c.loop-person-test.true (c.loop-person.invariant listed r) (λ ahead. both_ways _ c.if-is_ahead.false ((c.is_ahead.ensures listed r).1 ahead))

pub returns : goal.returns
returns c listed r =
    subst (λ (those : List Person). AllByRecursion (λ (person : Person). IsAhead c.args.list c.args.reckoning.now.needed.protections listed c.args.reckoning.now.needed.members person → ⊥) those)
    (take_all c.loop-person.person-index c.args.people.now c.loop-person-test.false) (c.loop-person.invariant listed r)

pub returns-then-is_ahead : goal.returns-then-is_ahead
returns-then-is_ahead c listed r = (
  take c.loop-person.person-index c.args.people.now,
  _,
  drop (suc c.loop-person.person-index) c.args.people.now,
  split_at_place c.args.people.now c.loop-person.person-index _ c.loop-person-test.true,
  refl,
  (c.is_ahead.ensures listed r).0 c.if-is_ahead.true,
  c.loop-person.invariant listed r,
)
