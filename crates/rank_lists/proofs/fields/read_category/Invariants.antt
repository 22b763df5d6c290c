use Rattle.std.proofs.Common.{◌≡◌, drop}
use Rattle.std.specs.Prelude.{find}
use Rattle.office_base.specs.CategorySteps.{category_steps}
use Rattle.office_text.specs.Names.{is_named}
use Rattle.rank_lists.proofs.fields.read_category.Given as goal

abbrev pub invariant-loop-row : goal.invariant-loop-row
invariant-loop-row l = record {
  rows : l.row-items ≡ category_steps;
  rest : find (λ row. is_named l.text row.step) (drop l.row-index category_steps) ≡ find (λ row. is_named l.text row.step) category_steps;
}
