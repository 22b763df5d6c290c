use Rattle.std.proofs.Common.{◌≡◌, ◌++◌, take}
use Rattle.std.specs.List.{flat_map}
use Rattle.office_base.specs.CategorySteps.{own_steps}
use Rattle.season_generator.specs.Bundle.{step_row}
use Rattle.season_generator.proofs.programmes.push_programme.Given as goal

abbrev pub invariant-loop-step : goal.invariant-loop-step
invariant-loop-step l = l.out ≡ l.fn.out ++ flat_map (step_row l.size l.programme) (take l.step-index own_steps)
