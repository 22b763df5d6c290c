use Rattle.std.proofs.Common.{◌≡◌, ◌++◌, ◌+◌}
use Rattle.season_generator.specs.Bundle.{answer_row, choice_name, lines}
use Rattle.season_generator.specs.Draws.{state_after, drawn}
use Rattle.season_generator.proofs.requests.push_answers.Given as goal

abbrev pub invariant-loop-candidate : goal.invariant-loop-candidate
invariant-loop-candidate l = record {
  written : l.out ≡ l.fn.out ++ lines l.candidate (λ candidate. answer_row l.window (candidate + 1) (choice_name (drawn 20 (state_after candidate l.fn.draws.state))));
  state : l.draws.state ≡ state_after l.candidate l.fn.draws.state;
}
