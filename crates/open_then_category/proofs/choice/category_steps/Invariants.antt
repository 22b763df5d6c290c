use Rattle.std.proofs.Common.{take}
use Rattle.std.specs.List.{AllZip}
use Rattle.office_base.specs.CategorySteps.{category_steps}
use Rattle.open_then_category.specs.Stepwise.{IsCategoryStep}
use Rattle.open_then_category.proofs.choice.category_steps.Given as goal

abbrev pub invariant-loop-row : goal.invariant-loop-row
invariant-loop-row l = AllZip (IsCategoryStep l.seats l.rest) (take l.row-index category_steps) l.lists.items
