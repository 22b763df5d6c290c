use Rattle.std.proofs.Common.{refl}
use Rattle.keeper_sqlite.proofs.OpenLemmas.{ask_nothing}
use Rattle.keeper_sqlite.proofs.calls.ask.Goals as goal

pub returns-clause-acts : goal.returns-clause-acts
returns-clause-acts g c = record {
  done = λ clean. (_, c.in_ok-query_all.ensures.ok clean, refl);
  lost = λ _. tt;
}

pub returns-in_err-query_all-clause-inside : goal.returns-in_err-query_all-clause-inside
returns-in_err-query_all-clause-inside g c = (c.query_all.ensures.same_reference, ask_nothing g.S.Store _ _ (λ rows. rows.items) c.args.tx.now.conn.now c.query_all.new.self.conn.now c.query_all.result c.query_all.ensures.ok c.query_all.ensures.err c.query_all.ensures.survives)

pub returns-clause-inside : goal.returns-clause-inside
returns-clause-inside g c = (c.query_all.ensures.same_reference, ask_nothing g.S.Store _ _ (λ rows. rows.items) c.args.tx.now.conn.now c.query_all.new.self.conn.now c.query_all.result c.query_all.ensures.ok c.query_all.ensures.err c.query_all.ensures.survives)
