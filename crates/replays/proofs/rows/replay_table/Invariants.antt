use Rattle.std.proofs.Common.{◌≡◌, ◌+◌, drop}
use Rattle.std.specs.Prelude.{map}
use Rattle.replays.specs.Replay.{rows_replayed}
use Rattle.replays.proofs.Follows.{Completes}
use Rattle.replays.proofs.rows.replay_table.Given as goal

abbrev pub invariant-loop-at : goal.invariant-loop-at
invariant-loop-at g l = record {
  replayed : rows_replayed l.fn.book.season l.window 1 (map g.R.KeptRow.act l.rows) l.fn.book.state
      ≡ rows_replayed l.fn.book.season l.window (l.at + 1) (map g.R.KeptRow.act (drop l.at l.rows)) l.book.state;
  season : l.book.season ≡ l.fn.book.season;
  entries : Completes g.R.KeptRow.act l.window l.rows l.at l.fn.book.entries l.book.entries;
}
