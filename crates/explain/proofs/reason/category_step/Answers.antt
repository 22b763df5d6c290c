use Rattle.std.proofs.Common.{sym, ◌∙◌}
use denote.Enum.Bare.{same_false}
use Rattle.office_base.specs.contracts.person.Category.{the_type}
use Rattle.explain.proofs.Lists.{passed_over}
use Rattle.explain.proofs.reason.category_step.Goals as goal

pub loop-row-preserved : goal.loop-row-preserved
loop-row-preserved c = record {
  rows = c.loop-row.invariant.rows;
  left = passed_over _ c.loop-row.row-index _ c.args.category c.loop-row.invariant.rows c.loop-row-test.true (same_false the_type _ _ (sym c.eq.ensures ∙ c.if-eq.false)) c.loop-row.invariant.left;
}
