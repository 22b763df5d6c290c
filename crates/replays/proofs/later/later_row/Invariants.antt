use Rattle.std.proofs.Common.{◌≡◌, None, drop}
use Rattle.replays.specs.Later.{is_later, least_by}
use Rattle.replays.specs.Replay.{window_of}
use Rattle.replays.proofs.later.later_row.Given as goal

abbrev pub invariant-loop-row : goal.invariant-loop-row
invariant-loop-row g l =
    least_by (λ row. is_later l.cuts (window_of (g.R.KeptRow.act row))) (λ row. window_of (g.R.KeptRow.act row)) l.best (drop l.row-index l.rows)
    ≡ least_by (λ row. is_later l.cuts (window_of (g.R.KeptRow.act row))) (λ row. window_of (g.R.KeptRow.act row)) None l.rows
