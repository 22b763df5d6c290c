use Rattle.std.proofs.Common.{◌≡◌, length}
use Rattle.sqlite.specs.Held.{state}
use Rattle.keeper_sqlite.specs.Commits.{CommitsNothing}
use Rattle.keeper_sqlite.proofs.CallLemmas.{LeavesText}
use Rattle.keeper_sqlite.proofs.StopLemmas.{LeavesStopText}
use Rattle.keeper_sqlite.proofs.season.insert_parts.Given as goal

abbrev pub invariant-parts : goal.invariant-parts
invariant-parts g l =
    (l.tx.conn.ghost_name ≡ l.fn.tx.conn.ghost_name) × CommitsNothing (state g.S.Store l.fn.tx.conn.now) (state g.S.Store l.tx.conn.now)
    × LeavesText g.S.Store l.insert.text l.text l.number l.rest l.fn.tx.conn.now l.tx.conn.now
    × LeavesStopText g.S.Store l.insert.text l.text l.number l.rest l.fn.tx.conn.now l.tx.conn.now

abbrev pub decreases-parts : goal.decreases-parts
decreases-parts g l = length l.rest
