use Rattle.keeper_sqlite.proofs.ActLemmas.{broken}
use Rattle.std.proofs.Common.{arith}
use Rattle.office_base.specs.SeatKinds.{seat_kind_number}
use Rattle.office_base.proofs.SeatKinds.{below_all_kinds}
use Rattle.keeper_sqlite.proofs.columns.seat_kind_at.Goals as goal

pub returns-in_err-number_at-clause-err : goal.returns-in_err-number_at-clause-err
returns-in_err-number_at-clause-err c =
    broken _ c.from_residual.result _ c.from_residual.ensures.1
    (λ found kind h. c.in_err-number_at.ensures.err found (seat_kind_number kind) (let below = below_all_kinds kind in omega (arith, below), h))
