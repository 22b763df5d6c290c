use Rattle.std.proofs.Common.{◌≡◌, ◌≤◌, ◌-◌, length}
use Rattle.office_base.specs.Outside.{Took}
use Rattle.office_base.proofs.whole.read_through.Given as goal

-- the bytes so far were taken, and are no more than the limit, and the source did not fail
abbrev pub invariant-loop-bytes : goal.invariant-loop-bytes
invariant-loop-bytes g l =
    let left = g.S.Source.left in
    let faults = g.S.Source.faults in
    Took l.bytes (left l.fn.source) (left l.source) × (length l.bytes ≤ l.limit) × (faults l.source ≡ faults l.fn.source)

abbrev pub decreases-loop-bytes : goal.decreases-loop-bytes
decreases-loop-bytes g l = l.limit - length l.bytes
