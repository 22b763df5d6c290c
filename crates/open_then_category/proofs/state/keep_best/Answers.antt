use Rattle.std.proofs.Common.{ap, length, arith}
use Rattle.placements.proofs.Merit.{length_with}
use Rattle.open_then_category.proofs.state.keep_best.Goals as goal

pub drop_last-requires-2 : goal.drop_last-requires-2
drop_last-requires-2 c =
    let size = ap length c.put_in_order.ensures.items in
    let few = c.requires.free c.in-Some.person c.in-Some.is in
    omega (arith, size, few, length_with c.args.list c.in-Some.person c.args.people.now.items)
