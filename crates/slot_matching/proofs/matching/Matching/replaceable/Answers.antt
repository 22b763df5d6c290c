use Rattle.std.proofs.Common.{◌≡◌, sym, subst}
use Rattle.slot_matching.specs.Kept.{Kept, MayJoin}
use Rattle.slot_matching.specs.Replaceable.{IsReplaceable}
use Rattle.slot_matching.proofs.Full.{closed_spare}
use Rattle.slot_matching.proofs.Worst.{told_by}
use Rattle.slot_matching.proofs.matching.Matching.replaceable.Goals as goal

-- sets with nothing to spare have one in common
pub least_full-requires-clause-closed : goal.least_full-requires-clause-closed
least_full-requires-clause-closed c = closed_spare c.self.inside.protections c.self.inside.members.items c.self.inside.spare c.self.invariant.left

-- the least set with nothing to spare shows whom the person can replace
pub returns : goal.returns
returns c =
    let kept : Kept = record { protections = c.self.inside.protections; list = c.self.inside.list; members = c.self.inside.members.items } in
    let is : kept ≡ c.args.self.now = c.self.view_is in
    let may : MayJoin kept c.args.person.now = subst (λ k. MayJoin k c.args.person.now) (sym is) c.requires in
    subst (λ k. IsReplaceable k c.args.person.now c.least_full.result) is
    (told_by kept c.args.person.now c.self.inside.spare _ c.least_full.result c.self.invariant may c.least_full.ensures)
