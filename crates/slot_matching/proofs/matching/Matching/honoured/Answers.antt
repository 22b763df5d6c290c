use Rattle.std.proofs.Common.{◌≡◌, ◌∙◌, subst, sym, length, arith}
use Rattle.office_base.specs.Placement.{IsHonoured}
use Rattle.placements.proofs.Hall.{positions_below_few}
use Rattle.slot_matching.specs.Kept.{Kept, IsKept, all_traits}
use Rattle.slot_matching.proofs.OneMemberMore.{kept_where, members_few, honoured_all}
use Rattle.slot_matching.proofs.matching.Matching.honoured.Goals as goal

pub overflow_cast-result : goal.overflow_cast-result
overflow_cast-result c =
    let kept : Kept = record { protections = c.self.inside.protections; list = c.self.inside.list; members = c.self.inside.members.items } in
    let few = members_few kept c.self.inside.spare _ c.self.invariant in
    let small = c.self.invariant.few in
    let within = positions_below_few 6 kept.protections all_traits in
    let len = c.len.ensures in
    let items = c.self.inside.members.ok.0 in omega arith

pub returns-clause-honoured : goal.returns-clause-honoured
returns-clause-honoured c =
    let kept : Kept = record { protections = c.self.inside.protections; list = c.self.inside.list; members = c.self.inside.members.items } in
    let items : length kept.members ≡ c.len.result = sym (c.len.ensures ∙ c.self.inside.members.ok.0) in
    subst (λ (k : Kept). IsHonoured k.protections k.members c.len.result) c.self.view_is
    (subst (IsHonoured kept.protections kept.members) items (honoured_all kept c.self.inside.spare _ c.self.invariant))

pub returns-clause-kept : goal.returns-clause-kept
returns-clause-kept c =
    let kept : Kept = record { protections = c.self.inside.protections; list = c.self.inside.list; members = c.self.inside.members.items } in
    subst IsKept c.self.view_is (kept_where kept c.self.inside.spare _ c.self.invariant)
