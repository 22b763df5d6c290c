use Rattle.std.proofs.Common.{◌≡◌, take, drop}
use Rattle.std.specs.List.{AllByRecursion}
use Rattle.sqlite.specs.Held.{state}
use Rattle.keeper_sqlite.specs.Commits.{CommitsNothing}
use Rattle.keeper_sqlite.specs.Kept.{PutFits, put_calls}
use Rattle.keeper_sqlite.proofs.CallLemmas.{Leaves}
use Rattle.keeper_sqlite.proofs.StopLemmas.{LeavesStop}
use Rattle.keeper_sqlite.proofs.puts.insert_all.Given as goal

abbrev pub invariant-loop-row : goal.invariant-loop-row
invariant-loop-row g l =
    (l.tx.conn.ghost_name ≡ l.fn.tx.conn.ghost_name) × CommitsNothing (state g.S.Store l.fn.tx.conn.now) (state g.S.Store l.tx.conn.now)
    × Leaves g.S.Store (put_calls l.rows) (put_calls (drop l.row-index l.rows)) l.fn.tx.conn.now l.tx.conn.now
    × LeavesStop g.S.Store (put_calls l.rows) (put_calls (drop l.row-index l.rows)) l.fn.tx.conn.now l.tx.conn.now
    × AllByRecursion PutFits (take l.row-index l.rows)
