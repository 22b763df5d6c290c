use Rattle.slot_matching.specs.Full.{HasSpareBelow}
use Rattle.slot_matching.proofs.spare.all_have_spare.Given as goal

abbrev pub invariant-loop-set : goal.invariant-loop-set
invariant-loop-set l = HasSpareBelow l.set l.spare l.traits
