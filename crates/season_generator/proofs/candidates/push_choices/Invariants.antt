use Rattle.std.proofs.Common.{◌≡◌, ◌++◌, ◌+◌, ◌*◌}
use Rattle.season_generator.specs.Bundle.{choices_row, lines, profile_of}
use Rattle.season_generator.specs.Draws.{state_after}
use Rattle.season_generator.proofs.candidates.push_choices.Given as goal

abbrev pub invariant-loop-candidate : goal.invariant-loop-candidate
invariant-loop-candidate l = record {
  written : l.out ≡ l.initial.out ++ lines l.candidate (λ candidate. choices_row (candidate + 1) (profile_of l.fn.draws.state candidate));
  state : l.draws.state ≡ state_after (6 * l.candidate) l.fn.draws.state;
}
