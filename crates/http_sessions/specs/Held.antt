-- What an inbox holds.
use Rattle.std.specs.Prelude.{◌≡◌, ℕ, ◌-◌, ◌≤◌, List, take, drop, length}
use Rattle.http_wire.specs.Limits.{most_message_bytes}
use Rattle.http_sessions.specs.declared.inbox.Inbox.TheInside.{Inside}

abbrev pub held : Inside → List ℕ
held a = take (a.end - a.start) (drop a.start a.bytes.items)

abbrev pub IsPlaced : Inside → Type 0
IsPlaced a = (a.start ≤ a.end) × (a.end ≤ most_message_bytes) × (length a.bytes.items ≡ most_message_bytes)
