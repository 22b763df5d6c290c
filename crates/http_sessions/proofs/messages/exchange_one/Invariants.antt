use Rattle.std.proofs.Common.{◌≡◌, ℕ, ◌-◌, length, List, ◌++◌}
use Rattle.office_base.specs.Outside.{Took}
use Rattle.http_wire.specs.Limits.{most_message_bytes}
use Rattle.http_sessions.proofs.messages.exchange_one.Given as goal

-- bytes came behind what was held, and nothing else happened
abbrev pub invariant-reads : goal.invariant-reads
invariant-reads g l =
    let left = g.L.Link.left in
    let written = g.L.Link.written in
    let faults = g.L.Link.faults in
    (got : List ℕ) × Took got (left l.fn.link) (left l.link) × (l.inbox ≡ l.fn.inbox ++ got) × (l.counter ≡ l.fn.counter)
    × (written l.link ≡ written l.fn.link) × (faults l.link ≡ faults l.fn.link)

abbrev pub decreases-reads : goal.decreases-reads
decreases-reads g l = most_message_bytes - length l.inbox
