use Rattle.std.proofs.Common.{◌≡◌, ◌++◌, ◌+◌, ◌*◌}
use Rattle.std.specs.Prelude.{slice_index}
use Rattle.season_generator.specs.Bundle.{lines, profile_of, register_row}
use Rattle.season_generator.specs.Draws.{state_after}
use Rattle.season_generator.proofs.candidates.push_register.Given as goal

abbrev pub invariant-loop-candidate : goal.invariant-loop-candidate
invariant-loop-candidate l = record {
  written : l.out ≡ l.initial.out ++ lines l.candidate (λ candidate. register_row (candidate + 1) (profile_of l.fn.draws.state candidate) (slice_index l.first candidate) (slice_index l.second candidate));
  state : l.draws.state ≡ state_after (6 * l.candidate) l.fn.draws.state;
}
