use Rattle.std.proofs.Common.{◌≡◌, drop}
use Rattle.keeper_sqlite.specs.Rising.{rise_after_key}
use Rattle.keeper_sqlite.proofs.rising.are_rising.Given as goal

abbrev pub invariant-loop-row : goal.invariant-loop-row
invariant-loop-row l = rise_after_key l.above (drop l.row-index l.rows) ≡ rise_after_key l.fn.last l.rows
