use Rattle.std.proofs.Common.{◌≡◌, sym, subst}
use Rattle.placements.specs.Ranks.{CanBePlaced}
use Rattle.slot_matching.specs.Kept.{Kept, MayJoin, with_member}
use Rattle.slot_matching.proofs.OneMemberMore.{can_join, joins_where}
use Rattle.slot_matching.proofs.matching.Matching.raises.Goals as goal

-- who has one to spare everywhere can be placed with the members, and nobody else
pub returns : goal.returns
returns c =
    let kept : Kept = record { protections = c.self.inside.protections; list = c.self.inside.list; members = c.self.inside.members.items } in
    let is : kept ≡ c.args.self.now = c.self.view_is in
    let may : MayJoin kept c.args.person.now = subst (λ k. MayJoin k c.args.person.now) (sym is) c.requires in
    let joined : Kept → Type 0 = λ k. CanBePlaced k.protections (with_member k c.args.person.now).members in (
      (λ answer. subst joined is (can_join kept c.args.person.now c.self.inside.spare _ c.self.invariant may (c.has_spare.ensures.0 answer))),
      (λ can. c.has_spare.ensures.1 (joins_where kept c.args.person.now c.self.inside.spare _ c.self.invariant may (subst joined (sym is) can))),
    )
