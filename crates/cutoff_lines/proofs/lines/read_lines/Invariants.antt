use Rattle.std.proofs.Common.{◌≡◌, ◌≤◌, drop, length}
use Rattle.cutoff_lines.specs.Lines.{read_lines}
use Rattle.cutoff_lines.proofs.lines.read_lines.Given as goal

abbrev pub invariant-loop-at : goal.invariant-loop-at
invariant-loop-at l = (l.at ≤ length l.lines) × (l.widest ≡ read_lines l.traits (drop l.at l.lines))

abbrev pub decreases-loop-at : goal.decreases-loop-at
decreases-loop-at l = l.at
