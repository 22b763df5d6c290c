use Rattle.std.proofs.Common.{◌+◌, subst, sym, take, arith}
use Rattle.office_base.specs.CategorySteps.{category_steps}
use Rattle.open_then_category.specs.Tried.{ShowCategories}
use Rattle.open_then_category.proofs.Filling.{shows_next}
use Rattle.open_then_category.proofs.kept_lists.category_lists.Goals as goal

pub loop-i-preserved : goal.loop-i-preserved
loop-i-preserved c =
    let i = c.loop-i.i in
    let below = c.loop-i-test.true in
    let counts = c.told-members in
    subst (ShowCategories c.args.state.now (take (i + 1) category_steps) (take (i + 1) c.args.members.now)) (sym c.in_ok-push.ensures.items)
    (shows_next c.args.state.now category_steps c.args.members.now c.loop-i.lists.items i _ _ c.in_ok-list.list below (omega (arith, below, counts)) c.loop-i.invariant c.in_ok-list.ensures)
