use Rattle.std.proofs.Common.{◌≡◌}
use Rattle.replays.specs.Acts.{acts_before}
use Rattle.replays.specs.Counted.{Follow}
use Rattle.replays.specs.Replay.{Pass}
use Rattle.replays.proofs.course.replay_windows.Given as goal

abbrev pub invariant-loop-window : goal.invariant-loop-window
invariant-loop-window l = record {
  passed : Pass l.fn.book.season l.kept l.window l.book.state;
  now : l.book.state.now ≡ l.window;
  season : l.book.season ≡ l.fn.book.season;
  entries : Follow (acts_before l.kept l.window) l.fn.book.entries l.book.entries;
}
