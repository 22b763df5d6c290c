use Rattle.keeper_sqlite.proofs.PutLemmas.{rows_done}
use Rattle.keeper_sqlite.proofs.transactions.write_rows.Goals as goal

pub returns-clause-acts : goal.returns-clause-acts
returns-clause-acts g c = rows_done g.S.Store c.args.rows.now c.args.tx.now.conn c.insert_all.new.tx.conn c.insert_all.result c.insert_all.ensures.acts c.insert_all.ensures.fit
