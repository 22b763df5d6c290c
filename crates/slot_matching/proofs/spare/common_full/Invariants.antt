use Rattle.slot_matching.specs.Full.{IsLeastOf}
use Rattle.slot_matching.proofs.spare.common_full.Given as goal

abbrev pub invariant-loop-n : goal.invariant-loop-n
invariant-loop-n l = IsLeastOf l.n l.spare l.traits l.least
