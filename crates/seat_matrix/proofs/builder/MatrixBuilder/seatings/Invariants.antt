use Rattle.std.proofs.Common.{◌≡◌, List, length, map, take}
use Rattle.office_base.specs.CategorySteps.{own_steps}
use Rattle.office_base.specs.StepNumbers.{step_number}
use Rattle.seat_matrix.specs.Builder.{Keeps}
use Rattle.seat_matrix.specs.Matrix.{given, seating_at}
use Rattle.seat_matrix.specs.declared.entry.Entry.{Entry}
use Rattle.seat_matrix.proofs.builder.MatrixBuilder.seatings.Given as goal

abbrev pub invariant-loop-i : goal.invariant-loop-i
invariant-loop-i l = record {
  size : length l.own ≡ length own_steps;
  filled : (entries : List Entry) → Keeps entries l.self → take l.i l.own ≡ map (λ step. given (seating_at l.code (step_number step) entries)) (take l.i own_steps);
}
