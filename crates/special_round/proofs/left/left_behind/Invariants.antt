use Rattle.std.proofs.Common.{◌≡◌, ◌≤◌, ◌*◌, ◌&&◌, take, nat_lt, if◌then◌else◌}
use Rattle.std.specs.Prelude.{sum_by}
use Rattle.office_base.specs.CategorySteps.{category_steps}
use Rattle.office_base.specs.StepNumbers.{step_number}
use Rattle.special_round.specs.Remaining.{may_be_taken, own_left}
use Rattle.special_round.proofs.left.left_behind.Given as goal

abbrev pub invariant-loop-row : goal.invariant-loop-row
invariant-loop-row l = record {
  rows : l.row-items ≡ category_steps;
  whole : l.left ≡ sum_by (λ row. if may_be_taken row && nat_lt (step_number l.step) (step_number row.step) then own_left l.matrix l.rows l.prog.0 row.step else 0) (take l.row-index category_steps);
  few : l.left ≤ 65535 * l.row-index;
}
