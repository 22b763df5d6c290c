use Rattle.std.proofs.Common.{◌≡◌, ◌++◌}
use Rattle.season_generator.specs.Bundle.{lines, programme_rows}
use Rattle.season_generator.proofs.programmes.push_matrix.Given as goal

abbrev pub invariant-loop-programme : goal.invariant-loop-programme
invariant-loop-programme l = l.out ≡ l.initial.out ++ lines l.programme (programme_rows l.size)
