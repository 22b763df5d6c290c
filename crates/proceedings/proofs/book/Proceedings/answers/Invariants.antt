use Rattle.std.proofs.Common.{◌≡◌}
use Rattle.office_moves.specs.Moves.{in_windows}
use Rattle.office_moves.specs.State.{rows_of}
use Rattle.proceedings.proofs.book.Proceedings.answers.Given as goal

abbrev pub invariant-loop-window : goal.invariant-loop-window
invariant-loop-window l = l.rows ≡ in_windows l.window (rows_of l.cand.0 l.self.state.answers)
