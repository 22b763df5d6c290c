use Rattle.std.proofs.Common.{◌≡◌, ◌++◌, drop}
use Rattle.office_base.specs.CategorySteps.{all_steps}
use Rattle.programme_lists.specs.Chosen.{all_by, everybody}
use Rattle.choice_trials.proofs.programme_states.held_by.Given as goal
use Rattle.open_then_category.specs.State.{admissions_of}

abbrev pub invariant-loop-step : goal.invariant-loop-step
invariant-loop-step l = l.all.items ++ all_by (drop l.step-index all_steps) (admissions_of l.state) ≡ everybody (admissions_of l.state)
