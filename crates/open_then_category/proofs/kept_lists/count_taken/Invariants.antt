use Rattle.std.proofs.Common.{◌≡◌, ◌≤◌, ◌+◌, ◌*◌, drop, length, map}
use Rattle.std.specs.Prelude.{sum}
use Rattle.std.specs.List.{filter}
use Rattle.office_base.specs.CategorySteps.{category_steps}
use Rattle.office_base.specs.Limits.{most_step_seats}
use Rattle.office_base.specs.Person.{is_common}
use Rattle.open_then_category.specs.State.{admissions_of}
use Rattle.open_then_category.specs.Tried.{common_taken}
use Rattle.open_then_category.proofs.kept_lists.count_taken.Given as goal

abbrev pub invariant-loop-row : goal.invariant-loop-row
invariant-loop-row l = record {
  whole : l.taken + sum (map (λ row. length (filter (is_common l.state.seats.list) (admissions_of l.state row.step))) (drop l.row-index category_steps)) ≡ common_taken l.state.seats.list (admissions_of l.state);
  few : l.taken ≤ most_step_seats * (l.row-index + 1);
}
