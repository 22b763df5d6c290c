use Rattle.std.proofs.Common.{ℕ, ◌<◌, ◌≤◌}
use Rattle.office_base.specs.Placement.{placed_on, protected}
use Rattle.slot_cert.proofs.cert.are_within.Given as goal

abbrev pub invariant-loop-t : goal.invariant-loop-t
invariant-loop-t l = (t : ℕ) → t < l.t → placed_on t l.pairs ≤ protected l.protections t
