use Rattle.keeper_sqlite.proofs.ActLemmas.{acts_broken}
use Rattle.keeper_sqlite.proofs.StopLemmas.{one_stop, one_lost}
use Rattle.std.proofs.Common.{◌∙◌}
use Rattle.keeper_sqlite.proofs.CallLemmas.{one_made}
use Rattle.keeper_sqlite.proofs.CommitLemmas.{nothing_then}
use Rattle.keeper_sqlite.proofs.PutLemmas.{put_fits}
use Rattle.keeper_sqlite.specs.Kept.{put_call}
use Rattle.keeper_sqlite.proofs.puts.insert_all.Goals as goal

pub loop-row-preserved : goal.loop-row-preserved
loop-row-preserved g c = (
  c.insert.ensures.inside.0 ∙ c.loop-row.invariant.0,
  nothing_then _ _ _ c.loop-row.invariant.1 c.insert.ensures.inside.1,
  one_made g.S.Store put_call c.args.rows.now c.loop-row.row-index _ c.args.tx.now.conn.now c.loop-row.tx.conn.now c.insert.new.tx.conn.now c.loop-row-test.true c.insert.ensures.inside.1 c.loop-row.invariant.2 c.in_ok-insert.ensures.acts.done,
  one_stop g.S.Store put_call c.args.rows.now c.loop-row.row-index _ c.args.tx.now.conn.now c.loop-row.tx.conn.now c.insert.new.tx.conn.now c.loop-row-test.true c.insert.ensures.inside.1 c.loop-row.invariant.3 c.in_ok-insert.ensures.acts.done,
  put_fits c.args.rows.now c.loop-row.row-index _ c.loop-row-test.true c.loop-row.invariant.4 c.insert.ensures.fits,
)

pub returns-in_err-insert-clause-acts : goal.returns-in_err-insert-clause-acts
returns-in_err-insert-clause-acts g c = acts_broken g.S.Store _ _ c.from_residual.result _ c.from_residual.ensures.1 (λ clean. one_lost g.S.Store put_call c.args.rows.now c.loop-row.row-index _ _ c.args.tx.now.conn.now c.loop-row.tx.conn.now c.insert.new.tx.conn.now c.loop-row-test.true c.insert.ensures.inside.1 c.loop-row.invariant.3 clean (c.in_err-insert.ensures.acts.lost clean))
