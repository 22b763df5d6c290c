use Rattle.std.proofs.Common.{◌≡◌, ◌≤◌, ◌+◌, ◌*◌, ◌^◌, length, take}
use Rattle.office_base.specs.CategorySteps.{category_steps}
use Rattle.office_base.specs.declared.step.StepKind.TheVariants.{Dereserved}
use Rattle.list_audit.specs.Clauses.{list_of_step, named_by}
use Rattle.list_audit.proofs.Rows.{given_by}
use Rattle.list_audit.proofs.numbers.seats_told.Given as goal

abbrev pub invariant-loop-row : goal.invariant-loop-row
invariant-loop-row l = record {
  rows : l.row-items ≡ category_steps;
  made : l.told ≡ (list_of_step l.fn.programme Dereserved).seats + given_by l.fn.version (λ kind. length (named_by l.fn.programme kind)) (take l.row-index category_steps);
  few : l.told ≤ 2 ^ 32 + 2 ^ 64 * l.row-index;
}
