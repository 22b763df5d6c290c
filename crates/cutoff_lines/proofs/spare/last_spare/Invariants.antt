use Rattle.std.proofs.Common.{◌≤◌, drop, length}
use Rattle.std.specs.List.{AllByRecursion}
use Rattle.cutoff_lines.specs.Found.{IsSpare}
use Rattle.cutoff_lines.proofs.spare.last_spare.Given as goal

abbrev pub invariant-loop-at : goal.invariant-loop-at
invariant-loop-at l = (l.at ≤ length l.held) × AllByRecursion (λ one. IsSpare l.marked.matching.members l.set one → ⊥) (drop l.at l.held)

abbrev pub decreases-loop-at : goal.decreases-loop-at
decreases-loop-at l = l.at
