use Rattle.keeper_sqlite.proofs.ActLemmas.{broken}
use Rattle.keeper_sqlite.proofs.lift.RaiseRowStoredRow.from_row.Goals as goal

pub returns-in_err-small_number_at-clause-err : goal.returns-in_err-small_number_at-clause-err
returns-in_err-small_number_at-clause-err c = broken _ c.from_residual-in_err-small_number_at.result _ c.from_residual-in_err-small_number_at.ensures.1 (λ found raise h. c.in_err-small_number_at.ensures.err found raise.window h.window)

pub returns-in_err-small_number_at-2-clause-err : goal.returns-in_err-small_number_at-2-clause-err
returns-in_err-small_number_at-2-clause-err c = broken _ c.from_residual-in_err-small_number_at-2.result _ c.from_residual-in_err-small_number_at-2.ensures.1 (λ found raise h. c.in_err-small_number_at-2.ensures.err found raise.prog.0 h.prog)

pub returns-in_err-small_number_at-3-clause-err : goal.returns-in_err-small_number_at-3-clause-err
returns-in_err-small_number_at-3-clause-err c = broken _ c.from_residual-in_err-small_number_at-3.result _ c.from_residual-in_err-small_number_at-3.ensures.1 (λ found raise h. c.in_err-small_number_at-3.ensures.err found raise.seats h.seats)
