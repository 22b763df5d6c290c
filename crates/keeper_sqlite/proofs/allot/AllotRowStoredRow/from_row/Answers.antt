use Rattle.keeper_sqlite.proofs.ActLemmas.{broken}
use Rattle.keeper_sqlite.proofs.allot.AllotRowStoredRow.from_row.Goals as goal

pub returns-in_err-small_number_at-clause-err : goal.returns-in_err-small_number_at-clause-err
returns-in_err-small_number_at-clause-err c = broken _ c.from_residual.result _ c.from_residual.ensures.1 (λ found allot h. c.in_err-small_number_at.ensures.err found allot.round h.round)

pub returns-in_err-number_at-clause-err : goal.returns-in_err-number_at-clause-err
returns-in_err-number_at-clause-err c = broken _ c.from_residual-in_err-number_at.result _ c.from_residual-in_err-number_at.ensures.1 (λ found allot h. c.in_err-number_at.ensures.err found allot.cand.0 h.cand)

pub returns-in_err-small_number_at-2-clause-err : goal.returns-in_err-small_number_at-2-clause-err
returns-in_err-small_number_at-2-clause-err c = broken _ c.from_residual-in_err-small_number_at-2.result _ c.from_residual-in_err-small_number_at-2.ensures.1 (λ found allot h. c.in_err-small_number_at-2.ensures.err found allot.prog.0 h.prog)
