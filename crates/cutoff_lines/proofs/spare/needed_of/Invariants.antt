use Rattle.std.proofs.Common.{take}
use Rattle.cutoff_lines.specs.Found.{IsNeededOf}
use Rattle.cutoff_lines.proofs.spare.needed_of.Given as goal

abbrev pub invariant-loop-person : goal.invariant-loop-person
invariant-loop-person l = IsNeededOf l.fn.list l.fn.protections (take l.person-index l.held) l.matching l.needed
