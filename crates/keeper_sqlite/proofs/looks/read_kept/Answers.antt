use Rattle.keeper_sqlite.proofs.ActLemmas.{acts_broken}
use Rattle.keeper_sqlite.proofs.LossLemmas.{answers_lost, raises_lost, allots_lost}
use Rattle.std.proofs.Common.{refl}
use Rattle.keeper_sqlite.proofs.CallLemmas.{tables_told}
use Rattle.keeper_sqlite.proofs.LookLemmas.{tables_loaded}
use Rattle.sqlite.specs.Held.{state}
use Rattle.keeper_sqlite.proofs.looks.read_kept.Goals as goal

pub returns-clause-acts : goal.returns-clause-acts
returns-clause-acts g c = record {
  done = tables_told g.S.Store _ c.args.tx.now.conn.now c.read_text.new.tx.conn.now c.read_all.new.tx.conn.now c.read_all-2.new.tx.conn.now c.read_all-3.new.tx.conn.now
      c.read_all.ensures.inside.1 c.read_all-2.ensures.inside.1 c.read_all-3.ensures.inside.1 c.in_ok-read_text.ensures.acts.done c.in_ok-read_all.ensures.acts.done c.in_ok-read_all-2.ensures.acts.done c.in_ok-read_all-3.ensures.acts.done;
  lost = λ _. tt;
}

pub returns-clause-stands : goal.returns-clause-stands
returns-clause-stands g c = λ strict clean has. tables_loaded g.S.Store strict _ (state g.S.Store c.args.tx.now.conn.now).now c.args.tx.now.conn.now c.read_all-3.new.tx.conn.now refl has
    (tables_told g.S.Store _ c.args.tx.now.conn.now c.read_text.new.tx.conn.now c.read_all.new.tx.conn.now c.read_all-2.new.tx.conn.now c.read_all-3.new.tx.conn.now
    c.read_all.ensures.inside.1 c.read_all-2.ensures.inside.1 c.read_all-3.ensures.inside.1 c.in_ok-read_text.ensures.acts.done c.in_ok-read_all.ensures.acts.done c.in_ok-read_all-2.ensures.acts.done c.in_ok-read_all-3.ensures.acts.done clean)

pub returns-in_err-read_all-clause-acts : goal.returns-in_err-read_all-clause-acts
returns-in_err-read_all-clause-acts g c = acts_broken g.S.Store _ _ c.from_residual-in_err-read_all.result _ c.from_residual-in_err-read_all.ensures.1 (λ clean. answers_lost g.S.Store _ _ c.args.tx.now.conn.now c.read_text.new.tx.conn.now c.read_all.new.tx.conn.now c.read_all.ensures.inside.1 c.in_ok-read_text.ensures.acts.done clean (c.in_err-read_all.ensures.acts.lost clean))

pub returns-in_err-read_all-2-clause-acts : goal.returns-in_err-read_all-2-clause-acts
returns-in_err-read_all-2-clause-acts g c = acts_broken g.S.Store _ _ c.from_residual-in_err-read_all-2.result _ c.from_residual-in_err-read_all-2.ensures.1 (λ clean. raises_lost g.S.Store _ _ _ c.args.tx.now.conn.now c.read_text.new.tx.conn.now c.read_all.new.tx.conn.now c.read_all-2.new.tx.conn.now c.read_all.ensures.inside.1 c.read_all-2.ensures.inside.1 c.in_ok-read_text.ensures.acts.done c.in_ok-read_all.ensures.acts.done clean (c.in_err-read_all-2.ensures.acts.lost clean))

pub returns-in_err-read_all-3-clause-acts : goal.returns-in_err-read_all-3-clause-acts
returns-in_err-read_all-3-clause-acts g c = acts_broken g.S.Store _ _ c.from_residual-in_err-read_all-3.result _ c.from_residual-in_err-read_all-3.ensures.1 (λ clean. (allots_lost g.S.Store _ _ _ _ c.args.tx.now.conn.now c.read_text.new.tx.conn.now c.read_all.new.tx.conn.now c.read_all-2.new.tx.conn.now c.read_all-3.new.tx.conn.now c.read_all.ensures.inside.1 c.read_all-2.ensures.inside.1 c.read_all-3.ensures.inside.1
    c.in_ok-read_text.ensures.acts.done c.in_ok-read_all.ensures.acts.done c.in_ok-read_all-2.ensures.acts.done clean (c.in_err-read_all-3.ensures.acts.lost clean)))
