use Rattle.keeper_sqlite.proofs.ActLemmas.{broken}
use Rattle.keeper_sqlite.specs.Columns.{IsPartRow}
use Rattle.keeper_sqlite.proofs.CallLemmas.{part_joined, zip_amiss}
use Rattle.keeper_sqlite.proofs.season.text_of.Goals as goal

pub loop-row-preserved : goal.loop-row-preserved
loop-row-preserved c = part_joined c.args.rows.now c.loop-row.text c.push_part.new.text c.loop-row.row-index c.row-item.result c.loop-row-test.true c.row-item.is c.loop-row.invariant c.in_ok-push_part.ensures.ok

pub returns-in_err-push_part-clause-err : goal.returns-in_err-push_part-clause-err
returns-in_err-push_part-clause-err c = broken _ c.from_residual.result _ c.from_residual.ensures.1 (λ enough. zip_amiss IsPartRow c.args.rows.now c.loop-row.row-index c.row-item.result c.loop-row-test.true c.row-item.is (c.in_err-push_part.ensures.err enough))
