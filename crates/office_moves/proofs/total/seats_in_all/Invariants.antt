use Rattle.std.proofs.Common.{◌≡◌, ◌≤◌, ◌*◌, take}
use Rattle.std.specs.Prelude.{sum_by}
use Rattle.office_base.specs.CategorySteps.{own_steps}
use Rattle.seat_matrix.specs.Seats.{of_step}
use Rattle.office_moves.proofs.total.seats_in_all.Given as goal

abbrev pub invariant-loop-step : goal.invariant-loop-step
invariant-loop-step l = record {
  whole : l.total ≡ sum_by (λ step. (of_step l.steps step).seats) (take l.step-index own_steps);
  few : l.total ≤ 65535 * l.step-index;
}
