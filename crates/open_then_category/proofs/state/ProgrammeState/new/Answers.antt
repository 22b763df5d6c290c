use Rattle.std.proofs.Common.{arith}
use Rattle.open_then_category.proofs.Keeping.{fresh_state}
use Rattle.open_then_category.proofs.state.ProgrammeState.new.Goals as goal

pub invariant_of-result : goal.invariant_of-result
invariant_of-result c =
    let room = c.in_ok-dereserved.ensures.capacity in
    fresh_state c.step_laws.ensures c.args.version c.programme-seats.result c.in_ok-open_step.open_step c.in_ok-categories.categories c.in_ok-dereserved.dereserved.items _
    c.requires.version c.programme-seats.ensures.sound c.in_ok-open_step.ensures c.in_ok-categories.ensures c.in_ok-dereserved.ensures.items
    (omega (arith, room, c.left_unfilled-most.ensures))
