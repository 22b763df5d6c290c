use Rattle.keeper_sqlite.proofs.ActLemmas.{acts_broken}
use Rattle.keeper_sqlite.proofs.LossLemmas.{tables_lost}
use Rattle.keeper_sqlite.proofs.CallLemmas.{none_kept, found_kept}
use Rattle.keeper_sqlite.proofs.looks.EverythingLookOptionKept.read.Goals as goal

pub returns-in-None-clause-acts : goal.returns-in-None-clause-acts
returns-in-None-clause-acts g c = record {
  done = none_kept g.S.Store c.in_ok-read.field-0 c.args.tx.now.conn.now c.read.new.tx.conn.now c.in-None.is c.in_ok-read.ensures.acts.done;
  lost = λ _. tt;
}

pub returns-in_ok-read_kept-in-Some-clause-acts : goal.returns-in_ok-read_kept-in-Some-clause-acts
returns-in_ok-read_kept-in-Some-clause-acts g c = record {
  done = found_kept g.S.Store c.in_ok-read_kept-in-Some.field-0 c.in-Some.cuts c.in_ok-read.field-0 c.args.tx.now.conn.now c.read.new.tx.conn.now c.read_kept.new.tx.conn.now
      c.in-Some.is c.in_ok-read_kept-in-Some.ensures.cuts c.read_kept.ensures.inside.1 c.in_ok-read.ensures.acts.done c.in_ok-read_kept-in-Some.ensures.acts.done;
  lost = λ _. tt;
}

pub returns-in_err-read_kept-in-Some-clause-acts : goal.returns-in_err-read_kept-in-Some-clause-acts
returns-in_err-read_kept-in-Some-clause-acts g c = acts_broken g.S.Store _ _ c.from_residual-in_err-read_kept-in-Some.result _ c.from_residual-in_err-read_kept-in-Some.ensures.1 (λ clean. tables_lost g.S.Store c.in-Some.cuts c.in_ok-read.field-0 _ c.args.tx.now.conn.now c.read.new.tx.conn.now c.read_kept.new.tx.conn.now c.in-Some.is c.read_kept.ensures.inside.1 c.in_ok-read.ensures.acts.done clean (c.in_err-read_kept-in-Some.ensures.acts.lost clean))
