use Rattle.std.proofs.Common.{◌≡◌, ◌≤◌, ◌*◌}
use Rattle.http_sessions.specs.Limits.{most_messages}
use Rattle.http_sessions.specs.Doors.{HasVisited}
use Rattle.http_sessions.proofs.doors.serve_door.Given as goal

abbrev pub invariant-visits : goal.invariant-visits
invariant-visits g l =
    let C = g.C.Counter in
    let D = g.D.Door in
    let L = g.D.Conn.Link in
    HasVisited C.answers L.left L.written L.faults l.fn.counter l.counter (D.told l.fn.door) (D.told l.door) × (most_messages * D.to_come l.door ≤ C.asks_left l.counter) × (D.faults l.door ≡ D.faults l.fn.door)
    × (D.out l.door ≡ D.out l.fn.door) × (D.to_come l.door ≤ D.to_come l.fn.door) × (C.lender l.counter ≡ C.lender l.fn.counter)

abbrev pub decreases-visits : goal.decreases-visits
decreases-visits g l = g.D.Door.to_come l.door
