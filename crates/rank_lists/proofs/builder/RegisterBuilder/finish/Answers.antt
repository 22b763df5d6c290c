use Rattle.std.proofs.Common.{Ok, rules}
use Rattle.std.proofs.lemmas.Iterator.{YieldsList-from_map, YieldsList-from_slice, items_from_collect}
use Rattle.std.proofs.lemmas.Iterator.Consumers.{YieldsList-from_rest}
use Rattle.std.specs.declared.alloc.AllocError.{AllocError}
use Rattle.office_base.specs.declared.person.Person.{Person}
use Rattle.rank_lists.proofs.MadeLemmas.{made, made_sound}
use Rattle.rank_lists.proofs.builder.RegisterBuilder.finish.Goals as goal

pub invariant_of-result : goal.invariant_of-result
invariant_of-result c =
    let given = c.into_iter.ensures.into_iter_gives in
    let held = items_from_collect {E = AllocError} (Ok c.in_ok-collect-2.field-0) c.in_ok-collect-2.ensures.ran (YieldsList-from_rest c.args.self.holders.entries given.0) in
    let ids = items_from_collect {E = AllocError} (Ok c.in_ok-collect.field-0) c.in_ok-collect.ensures.ran
    (YieldsList-from_map _ (λ (person : Person). person.id.0) (YieldsList-from_slice c.in_ok-people.people.items (cc)) (cc) (λ x r q k. search rules)) in
    made_sound c.requires.0 c.args.self _ _ _ c.requires.1 c.in_ok-people.ensures.all c.in_ok-people.ensures.ordered held given.5 ids

pub returns : goal.returns
returns c = λ entries keeps.
    let given = c.into_iter.ensures.into_iter_gives in
    let held = items_from_collect {E = AllocError} (Ok c.in_ok-collect-2.field-0) c.in_ok-collect-2.ensures.ran (YieldsList-from_rest c.args.self.holders.entries given.0) in
    made entries c.args.self _ _ keeps c.in_ok-people.ensures.all c.in_ok-people.ensures.ordered held given.5
