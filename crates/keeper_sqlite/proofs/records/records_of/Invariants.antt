use Rattle.std.proofs.Common.{take}
use Rattle.std.specs.List.{AllZip}
use Rattle.keeper_sqlite.proofs.records.records_of.Given as goal

abbrev pub invariant-loop-row : goal.invariant-loop-row
invariant-loop-row g l = AllZip g.R.StoredRow.stands_in (take l.row-index l.rows) l.records
