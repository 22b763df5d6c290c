use Rattle.std.proofs.Common.{◌≡◌, length}
use Rattle.office_http.proofs.serving.make_buffers.Given as goal

abbrev pub invariant-loop : goal.invariant-loop
invariant-loop l = length l.buffers.items ≡ l.counter
