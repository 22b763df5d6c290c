use Rattle.keeper_sqlite.proofs.ActLemmas.{broken}
use Rattle.std.proofs.Common.{arith}
use Rattle.office_base.specs.StepNumbers.{step_number}
use Rattle.office_base.proofs.StepNumbers.{below_all}
use Rattle.keeper_sqlite.proofs.columns.step_at.Goals as goal

pub returns-in_err-number_at-clause-err : goal.returns-in_err-number_at-clause-err
returns-in_err-number_at-clause-err c = broken _ c.from_residual.result _ c.from_residual.ensures.1 (λ found step h. c.in_err-number_at.ensures.err found (step_number step) (let below = below_all step in omega (arith, below), h))
