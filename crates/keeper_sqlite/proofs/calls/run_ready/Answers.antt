use Rattle.keeper_sqlite.proofs.ActLemmas.{acts_broken}
use Rattle.keeper_sqlite.proofs.StopLemmas.{refused_inside}
use Rattle.std.proofs.Common.{refl, inl}
use Rattle.keeper_sqlite.proofs.CallLemmas.{ran_inside}
use Rattle.keeper_sqlite.proofs.calls.run_ready.Goals as goal

pub returns-clause-acts : goal.returns-clause-acts
returns-clause-acts g c = record {
  done = ran_inside g.S.Store _ _ _ _ c.execute_prepared.result _ c.in_ok-execute_prepared.was c.execute_prepared.ensures.ended c.execute_prepared.ensures.runs;
  lost = λ _. tt;
}

pub returns-in_err-execute_prepared-clause-acts : goal.returns-in_err-execute_prepared-clause-acts
returns-in_err-execute_prepared-clause-acts g c = acts_broken g.S.Store _ _ c.from_residual.result _ c.from_residual.ensures.1 (λ clean. inl (_, refl, refused_inside g.S.Store _ _ _ _ c.execute_prepared.result _ c.in_err-execute_prepared.was c.execute_prepared.ensures.ended c.execute_prepared.ensures.runs clean))
