use Rattle.keeper_sqlite.proofs.ActLemmas.{broken}
use Rattle.keeper_sqlite.specs.Numbers.{choice_number}
use Rattle.keeper_sqlite.proofs.NumberLemmas.{small_choice}
use Rattle.keeper_sqlite.proofs.columns.choice_at.Goals as goal

pub returns-in_err-number_at-clause-err : goal.returns-in_err-number_at-clause-err
returns-in_err-number_at-clause-err c = broken _ c.from_residual.result _ c.from_residual.ensures.1 (λ found choice h. c.in_err-number_at.ensures.err found (choice_number choice) (small_choice choice, h))
