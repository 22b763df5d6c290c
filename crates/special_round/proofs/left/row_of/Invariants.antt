use Rattle.std.proofs.Common.{◌≡◌, drop}
use Rattle.office_base.specs.CategorySteps.{category_steps, row_among, row_of}
use Rattle.special_round.proofs.left.row_of.Given as goal

abbrev pub invariant-loop-row : goal.invariant-loop-row
invariant-loop-row l = row_of l.step ≡ row_among l.step (drop l.row-index category_steps)
