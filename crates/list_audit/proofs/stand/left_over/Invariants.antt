use Rattle.std.proofs.Common.{◌≡◌, take}
use Rattle.office_base.specs.CategorySteps.{category_steps}
use Rattle.programme_lists.specs.Programme.{left_by}
use Rattle.list_audit.specs.Clauses.{named_by}
use Rattle.list_audit.proofs.Left.{steps_of}
use Rattle.list_audit.proofs.stand.left_over.Given as goal

abbrev pub invariant-loop-row : goal.invariant-loop-row
invariant-loop-row l = record {
  rows : l.row-items ≡ category_steps;
  made : l.left ≡ left_by (steps_of (take l.row-index category_steps)) l.fn.rest (named_by l.programme);
}
