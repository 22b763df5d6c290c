use Rattle.std.proofs.Common.{◌≡◌, [], ◌∷◌, arith}
use Rattle.std.proofs.lemmas.Result.{err_from_is_err_and}
use Rattle.keeper_sqlite.proofs.CallLemmas.{only_row, row_amiss}
use Rattle.keeper_sqlite.proofs.phase.phase_of.Goals as goal

pub returns-in_err-cuts_of-in-len1-clause-err : goal.returns-in_err-cuts_of-in-len1-clause-err
returns-in_err-cuts_of-in-len1-clause-err c =
    let is : c.args.rows.now ≡ c.row-item.result ∷ [] = only_row c.args.rows.now c.row-item.result (omega (arith, c.in-len1.len_at_least)) (omega (arith, c.in-len1.len_below)) c.row-item.is in
    let p = err_from_is_err_and c.from_residual.result c.from_residual.ensures.1 in
    rw (p.1, p.2) (λ enough. row_amiss c.args.rows.now c.row-item.result is (c.in_err-cuts_of-in-len1.ensures.err enough))
