use Rattle.std.proofs.Common.{List, Option, None, length, subst, sym}
use Rattle.std.specs.List.{AllByRecursion}
use Rattle.office_base.specs.Person.{IsTraitSet}
use Rattle.office_base.specs.declared.person.CandId.{CandId}
use Rattle.office_base.specs.declared.person.Person.{Person}
use Rattle.placements.proofs.Ranks.{all_among, among_sublist}
use Rattle.placements.specs.Ranks.{AreAmong}
use Rattle.list_audit.specs.Steps.{Certifies, IsBestOf}
use Rattle.list_audit.proofs.SoundLists.{honoured_named}
use Rattle.list_audit.proofs.steps.choice_fault.Goals as goal

pub certifies-requires-clause-traits : goal.certifies-requires-clause-traits
certifies-requires-clause-traits c =
    subst (λ (those : List Person). AllByRecursion (λ person. IsTraitSet person.traits) those) (sym c.as_slice-named.ensures)
    (all_among (λ person. IsTraitSet person.traits) c.args.shown.now.admitted c.args.people.now (among_sublist c.args.shown.now.admitted c.args.people.now c.requires.part) c.requires.ranked.traits)

pub best_overtaking-requires-clause-most : goal.best_overtaking-requires-clause-most
best_overtaking-requires-clause-most c =
    let pairs = c.args.shown.now.cert.pairs in
    let both = c.in_ok-certifies.ensures.0 c.if-not-branch.false in
    let among : AreAmong c.as_slice-named.result.now c.args.people.now =
    subst (λ (those : List Person). AreAmong those c.args.people.now) (sym c.as_slice-named.ensures) (among_sublist c.args.shown.now.admitted c.args.people.now c.requires.part) in
    (length pairs, honoured_named c.args.protections.now c.args.people.now c.as_slice-named.result.now pairs among both.0 both.1, both.1)

pub returns-in-None : goal.returns-in-None
returns-in-None c =
    let named = c.as_slice-named.result.now in
    let both = c.in_ok-certifies.ensures.0 c.if-not-branch.false in
    let none = subst (λ (cand : Option CandId). IsBestOf c.args.list c.args.protections.now c.args.people.now named cand) c.in-None.is c.in_ok-cand.ensures in (
      subst (λ (those : List Person). Certifies c.args.protections.now c.args.people.now those c.args.shown.now.cert.pairs) c.as_slice-named.ensures both,
      subst (λ (those : List Person). IsBestOf c.args.list c.args.protections.now c.args.people.now those None) c.as_slice-named.ensures none,
    )
