use Rattle.std.proofs.Common.{drop}
use Rattle.replays.specs.Differences.{IsStranger}
use Rattle.replays.proofs.compare.difference_outside.Given as goal

abbrev pub invariant-loop-row : goal.invariant-loop-row
invariant-loop-row l = IsStranger l.number l.register.people l.rows (drop l.row-index l.rows) l.best
