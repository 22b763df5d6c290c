use Rattle.std.proofs.Common.{◌≤◌, ◌-◌, length}
use Rattle.merit_choice.specs.Within.{AreNoneWithin}
use Rattle.merit_choice.proofs.held.last_within.Given as goal

abbrev pub invariant-loop-at : goal.invariant-loop-at
invariant-loop-at l = (l.at ≤ length l.people) × AreNoneWithin l.set l.people l.marks l.at

abbrev pub decreases-loop-at : goal.decreases-loop-at
decreases-loop-at l = l.at - l.from
