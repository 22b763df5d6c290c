use Rattle.cutoff_lines.proofs.Building.{IsReadUpTo}
use Rattle.cutoff_lines.proofs.lines.cutoffs_of.Given as goal

abbrev pub invariant-loop-n : goal.invariant-loop-n
invariant-loop-n l = IsReadUpTo (record { list = l.fn.list; seats = l.fn.seats; protections = l.fn.protections; held = l.fn.held }) l.n l.lines
