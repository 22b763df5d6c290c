use Rattle.std.proofs.Common.{◌≡◌, map, drop}
use Rattle.sqlite.specs.Held.{state}
use Rattle.keeper_sqlite.specs.Commits.{CommitsNothing}
use Rattle.keeper_sqlite.specs.Kept.{call_of}
use Rattle.keeper_sqlite.proofs.CallLemmas.{Leaves}
use Rattle.keeper_sqlite.proofs.StopLemmas.{LeavesStop}
use Rattle.keeper_sqlite.proofs.calls.perform.Given as goal

abbrev pub invariant-loop-act : goal.invariant-loop-act
invariant-loop-act g l =
    (l.tx.conn.ghost_name ≡ l.fn.tx.conn.ghost_name) × CommitsNothing (state g.S.Store l.fn.tx.conn.now) (state g.S.Store l.tx.conn.now)
    × Leaves g.S.Store (map call_of l.acts) (map call_of (drop l.act-index l.acts)) l.fn.tx.conn.now l.tx.conn.now
    × LeavesStop g.S.Store (map call_of l.acts) (map call_of (drop l.act-index l.acts)) l.fn.tx.conn.now l.tx.conn.now
