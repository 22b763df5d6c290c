use Rattle.std.proofs.Common.{◌≡◌, ◌≤◌, ◌-◌, ◌*◌, sum, map, take, if◌then◌else◌}
use Rattle.office_base.specs.CategorySteps.{category_steps, gives_up}
use Rattle.seat_matrix.specs.Seats.{of_step}
use Rattle.dereserve.specs.Unfilled.{held_at}
use Rattle.dereserve.proofs.empty_seats.left_unfilled.Given as goal

abbrev pub invariant-loop-row : goal.invariant-loop-row
invariant-loop-row l = record {
  rows : l.row-items ≡ category_steps;
  made : l.empty ≡ sum (map (λ row. if gives_up row l.fn.version then (of_step l.fn.seats row.step).seats - held_at l.fn.held row.step else 0) (take l.row-index category_steps));
  few : l.empty ≤ 65535 * l.row-index;
}
