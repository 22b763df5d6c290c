use Rattle.std.proofs.Common.{◌≡◌, ◌++◌, take}
use Rattle.std.specs.Prelude.{map}
use Rattle.list_cutoffs.specs.Cutoffs.{under}
use Rattle.list_cutoffs.proofs.cutoffs.push_under.Given as goal

abbrev pub invariant-loop-line : goal.invariant-loop-line
invariant-loop-line l = l.cutoffs ≡ l.fn.cutoffs ++ map (under l.step) (take l.line-index l.lines)
