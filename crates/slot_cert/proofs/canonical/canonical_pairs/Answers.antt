use Rattle.std.proofs.Common.{◌≡◌, ◌+◌, ◌∙◌, List, length, Some, None, drop, sym, subst}
use Rattle.std.proofs.lemmas.List.{append-nil, drop_more, drop_all}
use Rattle.office_base.specs.declared.person.Person.{Person}
use Rattle.office_base.specs.declared.step.Protections.{Protections}
use Rattle.slot_cert.specs.Search.{IsSearch}
use Rattle.slot_cert.proofs.PairsSoFar.{IsOnTheWay, IsOnTheWay-next, IsCanonical-at_end}
use Rattle.slot_cert.proofs.canonical.canonical_pairs.Goals as goal
use Rattle.slot_cert.proofs.canonical.canonical_pairs.Goals.{in-Some+in_ok-push, in_default}

pub place-requires-clause-search : goal.place-requires-clause-search
place-requires-clause-search c =
    let i = c.loop-person.person-index in
    let admitted = c.args.admitted.now in
    (drop (i + 1) admitted, subst (IsSearch c.loop-person.search) (drop_more admitted i _ c.loop-person-test.true) c.loop-person.invariant.search)

pub loop-person-preserved : goal.loop-person-preserved
loop-person-preserved c =
    let i = c.loop-person.person-index in
    let admitted = c.args.admitted.now in
    let before = c.loop-person.invariant in
    elim c.match-place.branch [
      | in-Some+in_ok-push w ↦ (
          let next = IsOnTheWay-next c.args.protections.now admitted c.loop-person.pairs c.match-place.pairs c.loop-person.search c.place.new.self
          (drop i admitted) (drop (i + 1) admitted) (Some w.in-Some.slot) w.in-Some.ensures.choice w.in-Some.ensures.search w.in-Some.ensures.moves
          (drop_more admitted i _ c.loop-person-test.true) (w.pairs-is ∙ w.in_ok-push.ensures.ok) before.search before.way in
          record { search = next.0; way = next.1 })
      | in_default w ↦ (
          let next = IsOnTheWay-next c.args.protections.now admitted c.loop-person.pairs c.match-place.pairs c.loop-person.search c.place.new.self
          (drop i admitted) (drop (i + 1) admitted) None w.in_default.ensures.choice w.in_default.ensures.search w.in_default.ensures.moves
          (drop_more admitted i _ c.loop-person-test.true) (w.pairs-is ∙ sym (append-nil c.loop-person.pairs)) before.search before.way in
          record { search = next.0; way = next.1 })
    ]

pub returns : goal.returns
returns c =
    let i = c.loop-person.person-index in
    let admitted = c.args.admitted.now in
    let protections = c.args.protections.now in
    let search = c.loop-person.search in
    let six = subst (λ (p : Protections). length p.counts ≡ 6) c.new-search.ensures.room c.new-search.ensures.search.six in
    let none = drop_all i admitted c.loop-person-test.false in
    IsCanonical-at_end protections admitted c.loop-person.pairs search.room search.most six c.requires.distinct c.requires.traits
    (subst (λ (rest : List Person). IsOnTheWay protections admitted c.loop-person.pairs search.room rest search.most) none c.loop-person.invariant.way)
