use Rattle.std.proofs.Common.{◌≡◌, drop}
use Rattle.office_base.specs.CategorySteps.{category_steps}
use Rattle.explain.specs.Reason.{category_step, step_among}
use Rattle.explain.proofs.reason.category_step.Given as goal

abbrev pub invariant-loop-row : goal.invariant-loop-row
invariant-loop-row l = record {
  rows : l.row-items ≡ category_steps;
  left : step_among (drop l.row-index category_steps) l.category ≡ category_step l.category;
}
