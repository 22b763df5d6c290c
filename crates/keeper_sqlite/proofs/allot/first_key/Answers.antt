use Rattle.keeper_sqlite.proofs.ActLemmas.{broken}
use Rattle.std.proofs.Common.{rules}
use Rattle.keeper_sqlite.proofs.CallLemmas.{key_amiss}
use Rattle.keeper_sqlite.proofs.allot.first_key.Goals as goal

pub returns-in_err-small_number_at-in-Some-clause-err : goal.returns-in_err-small_number_at-in-Some-clause-err
returns-in_err-small_number_at-in-Some-clause-err c = broken _ c.from_residual.result _ c.from_residual.ensures.1 (λ enough. key_amiss c.args.rows.now c.in-Some.row.now (search rules) (λ key h. c.in_err-small_number_at-in-Some.ensures.err enough key.round h.round))

pub returns-in_err-number_at-in-Some-clause-err : goal.returns-in_err-number_at-in-Some-clause-err
returns-in_err-number_at-in-Some-clause-err c = broken _ c.from_residual-in_err-number_at-in-Some.result _ c.from_residual-in_err-number_at-in-Some.ensures.1 (λ enough. key_amiss c.args.rows.now c.in-Some.row.now (search rules) (λ key h. c.in_err-number_at-in-Some.ensures.err enough key.cand.0 h.cand))
