use Rattle.std.proofs.Common.{◌∙◌}
use Rattle.std.proofs.lemmas.Result.{err_from_is_err_and}
use Rattle.replays.proofs.Follows.{complete_all, complete_more}
use Rattle.replays.proofs.RowLemmas.{rows_carry, rows_end, rows_over}
use Rattle.replays.proofs.rows.replay_table.Goals as goal

pub loop-at-preserved : goal.loop-at-preserved
loop-at-preserved g c = record {
  replayed =
      rows_carry g.R.KeptRow.act c.args.book.now.season c.loop-at.book.season c.args.window c.loop-at.at c.args.rows.now _ _ c.loop-at.book.state _ c.loop-at.invariant.season c.loop-at.invariant.replayed
      c.loop-at-test.true c.index-rows-at.is c.in_ok-pass_row.ensures.on;
  season = c.pass_row.ensures.season ∙ c.loop-at.invariant.season;
  entries =
      complete_more g.R.KeptRow.act c.args.window c.loop-at.at c.args.rows.now _ _ c.loop-at.book.entries _ c.loop-at.invariant.entries c.loop-at-test.true
      c.index-rows-at.is c.in_ok-pass_row.ensures.entries;
}

pub returns-clause-replayed : goal.returns-clause-replayed
returns-clause-replayed g c =
    rows_over g.R.KeptRow.act c.args.book.now.season c.args.window c.loop-at.at c.args.rows.now _ c.loop-at.book.state c.loop-at.invariant.replayed c.loop-at-test.false

pub returns-clause-entries : goal.returns-clause-entries
returns-clause-entries g c =
    complete_all g.R.KeptRow.act c.args.window c.loop-at.at c.args.rows.now _ c.loop-at.book.entries c.loop-at.invariant.entries c.loop-at-test.false

pub returns-in_err-pass_row-clause-fault : goal.returns-in_err-pass_row-clause-fault
returns-in_err-pass_row-clause-fault g c =
    let p = err_from_is_err_and c.from_residual.result c.from_residual.ensures.1 in
    rw (p.1, p.2) (rows_end g.R.KeptRow.act g.R.KeptRow.stray c.args.book.now.season c.loop-at.book.season c.args.window c.loop-at.at c.args.rows.now _ _ c.loop-at.book.state _ c.loop-at.invariant.season
    c.loop-at.invariant.replayed c.loop-at-test.true c.index-rows-at.is c.in_err-pass_row.ensures.fault)
