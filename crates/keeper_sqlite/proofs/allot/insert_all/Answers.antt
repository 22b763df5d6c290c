use Rattle.keeper_sqlite.proofs.StopLemmas.{ready_then}
use Rattle.keeper_sqlite.specs.Kept.{allot_text, allot_calls}
use Rattle.keeper_sqlite.proofs.allot.insert_all.Goals as goal

pub returns-clause-acts : goal.returns-clause-acts
returns-clause-acts g c = ready_then g.S.Store allot_text _ (λ text. allot_calls text c.args.rows.now) c.args.tx.now.conn c.make_ready.new.tx.conn c.insert_each.new.tx.conn c.insert_each.result c.insert_each.ensures.inside.1 c.in_ok-insert.ensures.acts.done c.insert_each.ensures.acts
