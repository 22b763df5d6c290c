use Rattle.std.proofs.Common.{◌≡◌, drop}
use Rattle.office_base.specs.CategorySteps.{category_steps, row_among, row_of}
use Rattle.list_audit.proofs.stand.is_member.Given as goal

abbrev pub invariant-loop-row : goal.invariant-loop-row
invariant-loop-row l = record {
  rows : l.row-items ≡ category_steps;
  left : row_among l.kind (drop l.row-index category_steps) ≡ row_of l.kind;
}
