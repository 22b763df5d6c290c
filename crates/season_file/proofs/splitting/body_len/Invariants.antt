use Rattle.std.proofs.Common.{◌≡◌, ◌+◌, true, length}
use Rattle.season_file.specs.Bundle.{body_len}
use Rattle.season_file.proofs.splitting.body_len.Given as goal

abbrev pub invariant-lines : goal.invariant-lines
invariant-lines l = record {
  value : body_len true l.fn.bytes ≡ l.count + body_len true l.rest;
  whole : length l.fn.bytes ≡ l.count + length l.rest;
}

abbrev pub decreases-lines : goal.decreases-lines
decreases-lines l = length l.rest
