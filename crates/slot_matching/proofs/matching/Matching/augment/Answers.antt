use Rattle.std.proofs.Common.{◌≡◌, ◌∙◌, ◌++◌, ◌∷◌, [], List, subst, sym, refl, ap, arith}
use Rattle.std.proofs.lemmas.Bool.{cond-true, not_from_false}
use Rattle.office_base.specs.declared.person.Person.{Person}
use Rattle.placements.specs.Ranks.{CanBePlaced}
use Rattle.slot_matching.specs.Augmented.{IsWorstFor}
use Rattle.slot_matching.specs.Kept.{Kept, MayJoin, with_member, IsKept}
use Rattle.slot_matching.specs.Members.{IsWorstWithin}
use Rattle.slot_matching.proofs.Full.{closed_spare, has_spare}
use Rattle.slot_matching.proofs.OneMemberMore.{can_join, joins_where, kept_where, room_for, counted_push, where_failed}
use Rattle.slot_matching.proofs.Worst.{worst_for}
use Rattle.slot_matching.proofs.matching.Matching.augment.Goals as goal

-- sets with nothing to spare have one in common
pub least_full-requires-clause-closed : goal.least_full-requires-clause-closed
least_full-requires-clause-closed c = closed_spare c.self.inside.protections c.self.inside.members.items c.self.inside.spare c.self.invariant.left

-- a set without one to spare shows that the person cannot be placed with the members, and whom the person can replace
pub returns-in-Some-clause-done : goal.returns-in-Some-clause-done
returns-in-Some-clause-done c =
    let kept : Kept = record { protections = c.self.inside.protections; list = c.self.inside.list; members = c.self.inside.members.items } in
    let is : kept ≡ c.args.self.now = c.self.view_is in
    let may : MayJoin kept c.args.person.now = subst (λ k. MayJoin k c.args.person.now) (sym is) c.requires in
    let least = c.in-Some.ensures in
    let found = subst (λ (l : List Person). IsWorstWithin kept.list c.in-Some.set l c.worst_within.result) c.as_slice.ensures.value c.worst_within.ensures in
    let worst = worst_for kept c.args.person.now c.self.inside.spare _ c.in-Some.set c.worst_within.result c.self.invariant may least found in (
      (λ can. let some = joins_where kept c.args.person.now c.self.inside.spare _ c.self.invariant may
          (subst (λ (k : Kept). CanBePlaced k.protections (with_member k c.args.person.now).members) (sym is) can) c.in-Some.set.0 least.small least.holds in
          let none = least.full in omega arith),
      refl,
      subst (λ (k : Kept). IsWorstFor k c.args.person.now c.id_of-worst.result) is (subst (IsWorstFor kept c.args.person.now) (sym c.id_of-worst.ensures) worst),
    )

pub returns-in-Some-clause-kept : goal.returns-in-Some-clause-kept
returns-in-Some-clause-kept c =
    let kept : Kept = record { protections = c.self.inside.protections; list = c.self.inside.list; members = c.self.inside.members.items } in
    subst IsKept c.self.view_is (kept_where kept c.self.inside.spare _ c.self.invariant)

-- there is room for one who has one to spare
pub unreachable-requires : goal.unreachable-requires
unreachable-requires c =
    let kept : Kept = record { protections = c.self.inside.protections; list = c.self.inside.list; members = c.self.inside.members.items } in
    let room = room_for kept c.args.person.now c.self.inside.spare _ c.self.invariant c.requires.traits
    (has_spare c.self.inside.spare c.args.person.now.traits c.least_full.result c.in_default.is c.least_full.ensures) in
    let full = where_failed c.push.result _ (sym c.if-is_err.true ∙ c.is_err.ensures.value) c.push.ensures.full in
    let items = c.self.inside.members.ok.0 in omega arith

pub invariant_of-self : goal.invariant_of-self
invariant_of-self c =
    let kept : Kept = record { protections = c.self.inside.protections; list = c.self.inside.list; members = c.self.inside.members.items } in
    let is : kept ≡ c.args.self.now = c.self.view_is in
    let may : MayJoin kept c.args.person.now = subst (λ k. MayJoin k c.args.person.now) (sym is) c.requires in
    let items : c.push.new.self.items ≡ c.self.inside.members.items ++ c.args.person.now ∷ [] =
    c.push.ensures.items ∙ cond-true _ _ _ (c.is_err.ensures.negation ∙ not_from_false _ c.if-is_err.false) in
    counted_push kept c.args.person.now c.push.new.self.items c.self.inside.spare c.take_spare.new.spare _ _ c.self.invariant may items
    c.take_spare.ensures.taken c.take_spare.ensures.sets c.push.ensures.capacity

pub returns-clause-done : goal.returns-clause-done
returns-clause-done c =
    let kept : Kept = record { protections = c.self.inside.protections; list = c.self.inside.list; members = c.self.inside.members.items } in
    let is : kept ≡ c.args.self.now = c.self.view_is in
    let may : MayJoin kept c.args.person.now = subst (λ k. MayJoin k c.args.person.now) (sym is) c.requires in
    let items : c.push.new.self.items ≡ c.self.inside.members.items ++ c.args.person.now ∷ [] =
    c.push.ensures.items ∙ cond-true _ _ _ (c.is_err.ensures.negation ∙ not_from_false _ c.if-is_err.false) in
    let joined : Kept → Type 0 = λ k. CanBePlaced k.protections (with_member k c.args.person.now).members in
    let after : List Person → Kept = λ people. record { protections = c.self.inside.protections; list = c.self.inside.list; members = people } in (
      subst joined is (can_join kept c.args.person.now c.self.inside.spare _ c.self.invariant may
          (has_spare c.self.inside.spare c.args.person.now.traits c.least_full.result c.in_default.is c.least_full.ensures)),
      ap after items ∙ ap (λ (k : Kept). with_member k c.args.person.now) is,
    )

pub returns-clause-kept : goal.returns-clause-kept
returns-clause-kept c =
    let kept : Kept = record { protections = c.self.inside.protections; list = c.self.inside.list; members = c.push.new.self.items } in
    kept_where kept c.take_spare.new.spare _ (invariant_of-self c)
