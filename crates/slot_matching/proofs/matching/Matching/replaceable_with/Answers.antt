use Rattle.std.proofs.Common.{◌≡◌, sym, subst}
use Rattle.office_base.specs.declared.person.TraitSet.{TraitSet}
use Rattle.slot_matching.specs.Full.{IsLeastOf}
use Rattle.slot_matching.specs.Kept.{Kept, MayJoin}
use Rattle.slot_matching.specs.Replaceable.{IsReplaceable}
use Rattle.slot_matching.proofs.Full.{closed_spare}
use Rattle.slot_matching.proofs.Worst.{told_by}
use Rattle.slot_matching.proofs.matching.Matching.replaceable_with.Goals as goal

pub least_full-requires-clause-closed : goal.least_full-requires-clause-closed
least_full-requires-clause-closed c = closed_spare c.self.inside.protections c.self.inside.members.items c.self.inside.spare c.self.invariant.left

pub returns : goal.returns
returns c = λ person may same.
    let kept : Kept = record { protections = c.self.inside.protections; list = c.self.inside.list; members = c.self.inside.members.items } in
    let is : kept ≡ c.args.self.now = c.self.view_is in
    let mine : MayJoin kept person = subst (λ k. MayJoin k person) (sym is) may in
    let least : IsLeastOf 64 c.self.inside.spare person.traits c.least_full.result =
    subst (λ (traits : TraitSet). IsLeastOf 64 c.self.inside.spare traits c.least_full.result) (sym same) c.least_full.ensures in
    subst (λ k. IsReplaceable k person c.least_full.result) is (told_by kept person c.self.inside.spare _ c.least_full.result c.self.invariant mine least)
