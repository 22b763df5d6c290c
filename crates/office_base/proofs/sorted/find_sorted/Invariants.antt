use Rattle.std.proofs.Common.{◌-◌}
use Rattle.office_base.proofs.Searched.{IsBetween}
use Rattle.office_base.proofs.sorted.find_sorted.Given as goal

abbrev pub invariant-loop-low : goal.invariant-loop-low
invariant-loop-low g l = IsBetween g.K.Ord.cmp l.key l.pairs l.low l.high

abbrev pub decreases-loop-low : goal.decreases-loop-low
decreases-loop-low g l = l.high - l.low
