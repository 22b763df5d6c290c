use Rattle.std.proofs.Common.{◌∙◌}
use Rattle.keeper_sqlite.specs.Kept.{call_of}
use Rattle.keeper_sqlite.proofs.CallLemmas.{one_made}
use Rattle.keeper_sqlite.proofs.CommitLemmas.{nothing_then}
use Rattle.keeper_sqlite.proofs.StopLemmas.{one_stop}
use Rattle.keeper_sqlite.proofs.calls.perform.Goals as goal

pub loop-act-preserved : goal.loop-act-preserved
loop-act-preserved g c = (
  c.perform_one.ensures.inside.0 ∙ c.loop-act.invariant.0,
  nothing_then _ _ _ c.loop-act.invariant.1 c.perform_one.ensures.inside.1,
  one_made g.S.Store call_of c.args.acts.now c.loop-act.act-index _ c.args.tx.now.conn.now c.loop-act.tx.conn.now c.perform_one.new.tx.conn.now c.loop-act-test.true c.perform_one.ensures.inside.1 c.loop-act.invariant.2 c.in_ok-perform_one.ensures.acts.done,
  one_stop g.S.Store call_of c.args.acts.now c.loop-act.act-index _ c.args.tx.now.conn.now c.loop-act.tx.conn.now c.perform_one.new.tx.conn.now c.loop-act-test.true c.perform_one.ensures.inside.1 c.loop-act.invariant.3 c.in_ok-perform_one.ensures.acts.done,
)
