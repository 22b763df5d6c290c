-- What the steps of a programme hold.
use Rattle.std.specs.Prelude.{◌≡◌, ◌≤◌, ℕ, List, false, slice_index_or}
use Rattle.office_base.specs.StepNumbers.{step_number}
use Rattle.office_base.specs.declared.step.StepKind.{StepKind}
use Rattle.seat_matrix.specs.Seats.{is_dereserved}

-- the number that the list has for a step, by the number of the step
abbrev pub held_at : List ℕ → StepKind → ℕ
held_at held step = slice_index_or held (step_number step) 0

-- The numbers of persons whom the steps with seats of their own admitted, each at most the seats of its step.
abbrev pub AreHeld : (StepKind → ℕ) → List ℕ → Type 0
AreHeld seats held = (step : StepKind) → is_dereserved step ≡ false → held_at held step ≤ seats step
