use Rattle.std.proofs.Common.{◌≡◌, ◌++◌, ◌+◌, drop}
use Rattle.season_generator.specs.Summary.{round_lines}
use Rattle.season_generator.proofs.summary.push_rounds.Given as goal

abbrev pub invariant-loop-before : goal.invariant-loop-before
invariant-loop-before l = l.out ++ round_lines (l.before + 1) (drop l.before l.rounds) ≡ l.fn.out ++ round_lines 1 l.rounds
