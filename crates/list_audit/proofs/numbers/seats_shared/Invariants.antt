use Rattle.std.proofs.Common.{◌≡◌, ◌≤◌, ◌*◌, take}
use Rattle.office_base.specs.CategorySteps.{category_steps}
use Rattle.seat_matrix.specs.Seats.{seats_of}
use Rattle.list_audit.proofs.Rows.{given_by}
use Rattle.list_audit.proofs.numbers.seats_shared.Given as goal

abbrev pub invariant-loop-row : goal.invariant-loop-row
invariant-loop-row l = record {
  rows : l.row-items ≡ category_steps;
  made : l.shared ≡ given_by l.fn.version (λ kind. (seats_of l.fn.seats kind).seats) (take l.row-index category_steps);
  few : l.shared ≤ 65535 * l.row-index;
}
