use Rattle.keeper_sqlite.proofs.ActLemmas.{broken}
use Rattle.std.proofs.Common.{◌+◌, sym, subst, take}
use Rattle.std.specs.List.{AllZip}
use Rattle.keeper_sqlite.proofs.CallLemmas.{zip_more, zip_amiss}
use Rattle.keeper_sqlite.proofs.records.records_of.Goals as goal

pub loop-row-preserved : goal.loop-row-preserved
loop-row-preserved g c =
    subst (λ records. AllZip g.R.StoredRow.stands_in (take (c.loop-row.row-index + 1) c.args.rows.now) records) (sym c.in_ok-push.ensures.ok)
    (zip_more g.R.StoredRow.stands_in c.args.rows.now c.loop-row.records c.loop-row.row-index c.row-item.result c.in_ok-from_row.field-0 c.loop-row-test.true c.row-item.is c.loop-row.invariant c.in_ok-from_row.ensures.ok)

pub returns-in_err-from_row-clause-err : goal.returns-in_err-from_row-clause-err
returns-in_err-from_row-clause-err g c = broken _ c.from_residual-in_err-from_row.result _ c.from_residual-in_err-from_row.ensures.1 (λ enough. zip_amiss g.R.StoredRow.stands_in c.args.rows.now c.loop-row.row-index c.row-item.result c.loop-row-test.true c.row-item.is (c.in_err-from_row.ensures.err enough))
