use Rattle.keeper_sqlite.proofs.MeaningLemmas.{key_stands}
use Rattle.keeper_sqlite.proofs.StopLemmas.{rows_lost}
use Rattle.keeper_sqlite.specs.declared.rising.Key.{Key}
use Rattle.keeper_sqlite.specs.Kept.{key_query}
use Rattle.std.proofs.Common.{Option}
use Rattle.keeper_sqlite.specs.Columns.{TellsKey}
use Rattle.keeper_sqlite.proofs.CallLemmas.{told_as}
use Rattle.keeper_sqlite.proofs.allot.last_key.Goals as goal

pub returns-clause-acts : goal.returns-clause-acts
returns-clause-acts g c = record {
  done = told_as g.S.Store _ _ _ TellsKey c.args.tx.now.conn.now c.ask.new.tx.conn.now c.first_key.result c.deref.ensures.value c.in_ok-ask.ensures.acts.done c.first_key.ensures.ok;
  lost = rows_lost g.S.Store key_query (λ rows. (found : Option Key) → ¬ TellsKey rows found) _ _ c.args.tx.now.conn.now c.ask.new.tx.conn.now c.first_key.result c.deref.ensures.value c.in_ok-ask.ensures.acts.done c.first_key.ensures.err;
}

pub returns-clause-stands : goal.returns-clause-stands
returns-clause-stands g c = λ strict clean has. key_stands g.S.Store strict c.args.tx.now.conn.now c.ask.new.tx.conn.now c.first_key.result has
    (told_as g.S.Store _ _ _ TellsKey c.args.tx.now.conn.now c.ask.new.tx.conn.now c.first_key.result c.deref.ensures.value c.in_ok-ask.ensures.acts.done c.first_key.ensures.ok) clean
