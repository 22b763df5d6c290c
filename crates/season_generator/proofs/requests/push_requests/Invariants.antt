use Rattle.std.proofs.Common.{◌≡◌, ◌++◌, ◌+◌, ◌*◌}
use Rattle.season_generator.specs.Bundle.{lines, window_rows}
use Rattle.season_generator.specs.Draws.{state_after}
use Rattle.season_generator.proofs.requests.push_requests.Given as goal

abbrev pub invariant-loop-before : goal.invariant-loop-before
invariant-loop-before l = record {
  written : l.out ≡ l.initial.out ++ lines l.before (λ before. window_rows l.n (state_after (l.n * before) l.fn.draws.state) (before + 1));
  state : l.draws.state ≡ state_after (l.n * l.before) l.fn.draws.state;
}
