use Rattle.std.proofs.Common.{◌≡◌, ◌≤◌, ◌-◌, length}
use Rattle.http_wire.specs.HeadEnds.{head_len}
use Rattle.http_wire.proofs.HeadEndsLemmas.{len_left}
use Rattle.http_wire.proofs.head_ends.head_len.Given as goal

abbrev pub invariant-loop-line : goal.invariant-loop-line
invariant-loop-line l = record {
  fits : length l.rest ≤ length l.bytes;
  same : len_left (length l.bytes - length l.rest) l.begun l.rest ≡ head_len l.bytes;
}

abbrev pub decreases-loop-line : goal.decreases-loop-line
decreases-loop-line l = length l.rest
