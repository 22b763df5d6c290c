use Rattle.std.proofs.Common.{drop}
use Rattle.replays.specs.Differences.{AreFound}
use Rattle.replays.proofs.compare.seats_in.Given as goal

abbrev pub invariant-loop-row : goal.invariant-loop-row
invariant-loop-row l = AreFound l.number l.register.people l.rows (drop l.row-index l.rows) l.found.items
