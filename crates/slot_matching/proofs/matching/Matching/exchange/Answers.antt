use Rattle.std.proofs.Common.{◌≡◌, ◌∙◌, ◌++◌, ◌∷◌, [], List, subst, sym, ap, arith}
use Rattle.std.proofs.lemmas.Bool.{cond-true, not_from_false}
use Rattle.office_base.specs.declared.person.Person.{Person}
use Rattle.placements.specs.Ranks.{CanBePlaced, without}
use Rattle.slot_matching.specs.Kept.{Kept, MayJoin, without_member}
use Rattle.slot_matching.proofs.Exchanged.{removed_at, taken_out, room_back, counted_without, may_join_without, spare_again}
use Rattle.slot_matching.proofs.OneMemberMore.{kept_where, counted_push}
use Rattle.slot_matching.proofs.matching.Matching.exchange.Goals as goal

-- what is given back was taken when the member came
pub give_spare-requires-clause-room : goal.give_spare-requires-clause-room
give_spare-requires-clause-room c =
    let kept : Kept = record { protections = c.self.inside.protections; list = c.self.inside.list; members = c.self.inside.members.items } in
    room_back kept c.self.inside.spare _ c.remove-left.result (without c.args.out kept.members) c.self.invariant
    (taken_out c.as_slice.result.now kept.members c.in-Some.at c.args.out c.remove-left.result c.as_slice.ensures.value c.in-Some.ensures.0 c.in-Some.ensures.1 c.remove-left.ensures.value)

-- the person can be placed with those who are left
pub take_spare-requires-clause-some : goal.take_spare-requires-clause-some
take_spare-requires-clause-some c =
    let kept : Kept = record { protections = c.self.inside.protections; list = c.self.inside.list; members = c.self.inside.members.items } in
    let is : kept ≡ c.args.self.now = c.self.view_is in
    let may : MayJoin kept c.args.person.now = subst (λ k. MayJoin k c.args.person.now) (sym is) c.requires.may in
    let can = subst (λ (k : Kept). CanBePlaced k.protections (without c.args.out k.members ++ c.args.person.now ∷ [])) (sym is) c.requires.placed in
    spare_again kept c.self.inside.spare c.give_spare.new.spare _ c.args.out c.remove-left.result c.args.person.now c.self.invariant
    (taken_out c.as_slice.result.now kept.members c.in-Some.at c.args.out c.remove-left.result c.as_slice.ensures.value c.in-Some.ensures.0 c.in-Some.ensures.1 c.remove-left.ensures.value)
    c.give_spare.ensures.given c.give_spare.ensures.sets may can

pub invariant_of-self : goal.invariant_of-self
invariant_of-self c =
    let kept : Kept = record { protections = c.self.inside.protections; list = c.self.inside.list; members = c.self.inside.members.items } in
    let is : kept ≡ c.args.self.now = c.self.view_is in
    let may : MayJoin kept c.args.person.now = subst (λ k. MayJoin k c.args.person.now) (sym is) c.requires.may in
    let leaves = taken_out c.as_slice.result.now kept.members c.in-Some.at c.args.out c.remove-left.result c.as_slice.ensures.value c.in-Some.ensures.0
    c.in-Some.ensures.1 c.remove-left.ensures.value in
    let pushed : c.push.new.self.items ≡ c.remove-left.new.self.items ++ c.args.person.now ∷ [] =
    c.push.ensures.items ∙ cond-true _ _ _ (c.is_err.ensures.negation ∙ not_from_false _ c.if-is_err.false) in
    let left = c.remove-left.ensures.items ∙ removed_at c.as_slice.result.now kept.members c.in-Some.at c.args.out c.as_slice.ensures.value c.in-Some.ensures.1 in
    let items = pushed ∙ ap (λ (l : List Person). l ++ c.args.person.now ∷ []) left in
    counted_push (without_member kept c.args.out) c.args.person.now c.push.new.self.items c.give_spare.new.spare c.take_spare.new.spare _ _
    (counted_without kept c.self.inside.spare c.give_spare.new.spare _ c.args.out c.remove-left.result c.self.invariant leaves c.give_spare.ensures.given c.give_spare.ensures.sets)
    (may_join_without kept c.args.person.now c.args.out may) items c.take_spare.ensures.taken c.take_spare.ensures.sets
    (omega (arith, c.remove-left.ensures.capacity, c.push.ensures.capacity))

pub returns-clause-kept : goal.returns-clause-kept
returns-clause-kept c =
    let kept : Kept = record { protections = c.self.inside.protections; list = c.self.inside.list; members = c.push.new.self.items } in
    kept_where kept c.take_spare.new.spare _ (invariant_of-self c)
