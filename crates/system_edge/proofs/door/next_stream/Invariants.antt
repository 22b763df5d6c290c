use Rattle.std.proofs.Common.{◌≡◌, ◌≤◌}
use Rattle.system_edge.proofs.door.next_stream.Given as goal

abbrev pub invariant-loop : goal.invariant-loop
invariant-loop g l = record { kept : g.L.Listener.coming l.listener ≡ g.L.Listener.coming l.initial.listener; few : l.pauses ≤ 600 }
