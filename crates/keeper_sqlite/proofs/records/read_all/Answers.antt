use Rattle.keeper_sqlite.proofs.StopLemmas.{rows_lost}
use Rattle.std.specs.List.{AllZip}
use Rattle.std.proofs.Common.{List}
use Rattle.keeper_sqlite.proofs.CallLemmas.{records_told}
use Rattle.keeper_sqlite.proofs.records.read_all.Goals as goal

pub returns-clause-acts : goal.returns-clause-acts
returns-clause-acts g c = record {
  done = records_told g.S.Store g.R.StoredRow.stands_in c.args.query.now _ _ c.args.tx.now.conn.now c.ask.new.tx.conn.now c.records_of.result c.deref.ensures.value c.in_ok-rows.ensures.acts.done c.records_of.ensures.ok;
  lost = rows_lost g.S.Store c.args.query.now (λ rows. (held : List g.row.R.Denot) → ¬ AllZip g.R.StoredRow.stands_in rows held) _ _ c.args.tx.now.conn.now c.ask.new.tx.conn.now c.records_of.result c.deref.ensures.value c.in_ok-rows.ensures.acts.done c.records_of.ensures.err;
}
