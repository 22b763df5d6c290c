use Rattle.std.proofs.Common.{◌≢◌, List, length, sym, ap, subst, arith}
use Rattle.office_base.specs.Lists.{Pairwise}
use Rattle.office_base.specs.Person.{IsTraitSet}
use Rattle.office_base.specs.declared.person.Person.{Person}
use Rattle.placements.proofs.Sublists.{AllByRecursion-sublist}
use Rattle.placements.proofs.Ranks.{pairwise_sublist, no_more_than_people}
use Rattle.std.specs.List.{AllByRecursion}
use Rattle.placements.proofs.Slots.{small_slots}
use Rattle.merit_choice.proofs.choice.choose.Goals as goal

pub canonical_pairs-requires-clause-distinct : goal.canonical_pairs-requires-clause-distinct
canonical_pairs-requires-clause-distinct c =
    subst (λ (people : List Person). Pairwise (λ a b. a.id ≢ b.id) people) (sym c.as_slice.ensures)
    (pairwise_sublist (λ (a : Person) (b : Person). a.id ≢ b.id) c.in_ok-admitted.admitted c.args.step.now.people c.in_ok-admitted.ensures.may.people c.requires.people.distinct)

pub canonical_pairs-requires-clause-traits : goal.canonical_pairs-requires-clause-traits
canonical_pairs-requires-clause-traits c =
    subst (λ (people : List Person). AllByRecursion (λ person. IsTraitSet person.traits) people) (sym c.as_slice.ensures)
    (AllByRecursion-sublist (λ (person : Person). IsTraitSet person.traits) c.in_ok-admitted.admitted c.args.step.now.people c.in_ok-admitted.ensures.may.people c.requires.people.traits)

pub returns-clause-slots : goal.returns-clause-slots
returns-clause-slots c =
    let sets = subst (λ (people : List Person). AllByRecursion (λ person. IsTraitSet person.traits) people) (sym c.as_slice.ensures)
    (AllByRecursion-sublist (λ (person : Person). IsTraitSet person.traits) c.in_ok-admitted.admitted c.args.step.now.people c.in_ok-admitted.ensures.may.people c.requires.people.traits) in
    small_slots c.as_slice.result.now c.in_ok-pairs.pairs sets c.in_ok-pairs.ensures.placement.held

pub returns-clause-few : goal.returns-clause-few
returns-clause-few c =
    let pairs = no_more_than_people c.args.step.now.protections c.as_slice.result.now c.in_ok-pairs.pairs c.in_ok-pairs.ensures.placement in
    omega (arith, pairs, ap length c.as_slice.ensures, c.in_ok-admitted.ensures.may.seats)
