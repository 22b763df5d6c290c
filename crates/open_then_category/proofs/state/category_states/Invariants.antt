use Rattle.std.proofs.Common.{◌≡◌, [], map, take}
use Rattle.office_base.specs.CategorySteps.{category_steps}
use Rattle.open_then_category.specs.State.{step_kept}
use Rattle.open_then_category.proofs.state.category_states.Given as goal

abbrev pub invariant-loop-row : goal.invariant-loop-row
invariant-loop-row l = l.states.items ≡ map (λ row. step_kept l.seats row.step []) (take l.row-index category_steps)
