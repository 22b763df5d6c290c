use Rattle.std.proofs.Common.{take}
use Rattle.office_base.specs.CategorySteps.{category_steps}
use Rattle.open_then_category.specs.Tried.{ShowCategories}
use Rattle.open_then_category.proofs.kept_lists.category_lists.Given as goal

abbrev pub invariant-loop-i : goal.invariant-loop-i
invariant-loop-i l = ShowCategories l.state (take l.i category_steps) (take l.i l.members) l.lists.items
