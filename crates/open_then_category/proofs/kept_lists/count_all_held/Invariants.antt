use Rattle.std.proofs.Common.{◌≡◌, length, map, take}
use Rattle.office_base.specs.CategorySteps.{own_steps}
use Rattle.open_then_category.specs.State.{admissions_of}
use Rattle.open_then_category.proofs.kept_lists.count_all_held.Given as goal

abbrev pub invariant-loop-i : goal.invariant-loop-i
invariant-loop-i l = record {
  size : length l.held ≡ length own_steps;
  filled : take l.i l.held ≡ map (λ kind. length (admissions_of l.state kind)) (take l.i own_steps);
}
