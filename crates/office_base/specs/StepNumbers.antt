-- The number of a step among all steps, from 0.
use Rattle.std.specs.Prelude.{ℕ}
use Rattle.office_base.specs.declared.step.StepKind.{StepKind}
use Rattle.office_base.specs.declared.step.StepKind.TheVariants.{Open, Ews, Obc, Sc, St, Dereserved}

-- the number of a step
abbrev pub step_number : StepKind → ℕ
step_number Open = 0
step_number Ews = 1
step_number Obc = 2
step_number Sc = 3
step_number St = 4
step_number Dereserved = 5
