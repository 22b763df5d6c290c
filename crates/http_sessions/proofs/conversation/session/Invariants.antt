use Rattle.std.proofs.Common.{◌≡◌, ◌≤◌, ◌+◌}
use Rattle.http_sessions.proofs.Ending.{IsTalking}
use Rattle.http_sessions.proofs.conversation.session.Given as goal

abbrev pub invariant-messages : goal.invariant-messages
invariant-messages g l =
    let C = g.C.Counter in
    let L = g.L.Link in
    IsTalking C.answers l.fn.counter l.counter (L.left l.fn.link) (L.left l.link) (L.written l.fn.link) (L.written l.link) l.buffers.inbox l.done
    × (C.asks_left l.fn.counter ≤ C.asks_left l.counter + l.done) × (C.lender l.counter ≡ C.lender l.fn.counter) × (L.faults l.link ≡ L.faults l.fn.link)
