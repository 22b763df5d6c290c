use Rattle.std.proofs.Common.{◌≡◌, None, drop}
use Rattle.replays.specs.Later.{is_uncounted, least_by}
use Rattle.replays.proofs.later.uncounted_round.Given as goal

abbrev pub invariant-loop-row : goal.invariant-loop-row
invariant-loop-row l = least_by (λ row. is_uncounted l.cuts row.round) (λ row. row.round) l.best (drop l.row-index l.rows) ≡ least_by (λ row. is_uncounted l.cuts row.round) (λ row. row.round) None l.rows
