use Rattle.std.proofs.Common.{take}
use Rattle.list_cutoffs.specs.Cutoffs.{AreCutoffsIn}
use Rattle.list_cutoffs.proofs.cutoffs.cutoffs_in.Given as goal

abbrev pub invariant-loop-list : goal.invariant-loop-list
invariant-loop-list l = AreCutoffsIn l.seats (take l.list-index l.list-items) l.cutoffs
