use Rattle.keeper_sqlite.proofs.MeaningLemmas.{text_stands}
use Rattle.keeper_sqlite.proofs.StopLemmas.{rows_lost}
use Rattle.keeper_sqlite.specs.Columns.{IsPartRow}
use Rattle.std.specs.List.{AllZip}
use Rattle.keeper_sqlite.specs.Kept.{text_query}
use Rattle.std.proofs.Common.{List, ℕ}
use Rattle.keeper_sqlite.proofs.CallLemmas.{text_told}
use Rattle.keeper_sqlite.proofs.season.read_text.Goals as goal

pub returns-clause-acts : goal.returns-clause-acts
returns-clause-acts g c = record {
  done = text_told g.S.Store _ _ c.args.tx.now.conn.now c.ask.new.tx.conn.now c.text_of.result c.deref.ensures.value c.in_ok-rows.ensures.acts.done c.text_of.ensures.ok;
  lost = rows_lost g.S.Store text_query (λ rows. (held : List (List ℕ)) → ¬ AllZip IsPartRow rows held) _ _ c.args.tx.now.conn.now c.ask.new.tx.conn.now c.text_of.result c.deref.ensures.value c.in_ok-rows.ensures.acts.done c.text_of.ensures.err;
}

pub returns-clause-stands : goal.returns-clause-stands
returns-clause-stands g c = λ strict clean has. text_stands g.S.Store strict c.args.tx.now.conn.now c.ask.new.tx.conn.now c.text_of.result has
    (text_told g.S.Store _ _ c.args.tx.now.conn.now c.ask.new.tx.conn.now c.text_of.result c.deref.ensures.value c.in_ok-rows.ensures.acts.done c.text_of.ensures.ok) clean
