use Rattle.keeper_sqlite.proofs.MeaningLemmas.{cuts_stand}
use Rattle.keeper_sqlite.proofs.StopLemmas.{rows_lost}
use Rattle.keeper_sqlite.specs.Columns.{TellsPhase}
use Rattle.keeper_sqlite.specs.Kept.{phase_query}
use Rattle.std.proofs.Common.{Option, ℕ}
use Rattle.keeper_sqlite.proofs.CallLemmas.{phase_told}
use Rattle.keeper_sqlite.proofs.phase.read.Goals as goal

pub returns-clause-acts : goal.returns-clause-acts
returns-clause-acts g c = record {
  done = phase_told g.S.Store _ _ c.args.tx.now.conn.now c.ask.new.tx.conn.now c.phase_of.result c.deref.ensures.value c.in_ok-ask.ensures.acts.done c.phase_of.ensures.ok;
  lost = rows_lost g.S.Store phase_query (λ rows. (found : Option ℕ) → ¬ TellsPhase rows found) _ _ c.args.tx.now.conn.now c.ask.new.tx.conn.now c.phase_of.result c.deref.ensures.value c.in_ok-ask.ensures.acts.done c.phase_of.ensures.err;
}

pub returns-clause-stands : goal.returns-clause-stands
returns-clause-stands g c = λ strict clean has. cuts_stand g.S.Store strict c.args.tx.now.conn.now c.ask.new.tx.conn.now c.phase_of.result has
    (phase_told g.S.Store _ _ c.args.tx.now.conn.now c.ask.new.tx.conn.now c.phase_of.result c.deref.ensures.value c.in_ok-ask.ensures.acts.done c.phase_of.ensures.ok) clean
