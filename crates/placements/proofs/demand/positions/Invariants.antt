use Rattle.std.proofs.Common.{◌≡◌, ◌≤◌, ◌*◌}
use Rattle.placements.specs.Demand.{positions_below}
use Rattle.placements.proofs.demand.positions.Given as goal

abbrev pub invariant-loop-t : goal.invariant-loop-t
invariant-loop-t l = (l.sum ≡ positions_below l.t l.protections l.set) × (l.sum ≤ 65535 * l.t)
