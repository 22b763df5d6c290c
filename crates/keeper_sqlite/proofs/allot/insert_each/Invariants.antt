use Rattle.std.proofs.Common.{◌≡◌, take, drop}
use Rattle.std.specs.List.{AllByRecursion}
use Rattle.stored_tables.specs.Fits.{AllotFits}
use Rattle.sqlite.specs.Held.{state}
use Rattle.keeper_sqlite.specs.Commits.{CommitsNothing}
use Rattle.keeper_sqlite.specs.Kept.{allot_calls}
use Rattle.keeper_sqlite.proofs.CallLemmas.{Leaves}
use Rattle.keeper_sqlite.proofs.StopLemmas.{LeavesStop}
use Rattle.keeper_sqlite.proofs.allot.insert_each.Given as goal

abbrev pub invariant-loop-row : goal.invariant-loop-row
invariant-loop-row g l =
    (l.tx.conn.ghost_name ≡ l.fn.tx.conn.ghost_name) × CommitsNothing (state g.S.Store l.fn.tx.conn.now) (state g.S.Store l.tx.conn.now)
    × Leaves g.S.Store (allot_calls l.insert.text l.rows) (allot_calls l.insert.text (drop l.row-index l.rows)) l.fn.tx.conn.now l.tx.conn.now
    × LeavesStop g.S.Store (allot_calls l.insert.text l.rows) (allot_calls l.insert.text (drop l.row-index l.rows)) l.fn.tx.conn.now l.tx.conn.now
    × AllByRecursion AllotFits (take l.row-index l.rows)
