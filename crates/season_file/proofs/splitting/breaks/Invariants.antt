use Rattle.std.proofs.Common.{◌≡◌, ◌≤◌, ◌+◌, length}
use Rattle.season_file.specs.Bundle.{breaks}
use Rattle.season_file.proofs.splitting.breaks.Given as goal

abbrev pub invariant-lines : goal.invariant-lines
invariant-lines l = record {
  value : breaks l.fn.text ≡ l.count + breaks l.rest;
  within : l.count + length l.rest ≤ length l.fn.text;
}

abbrev pub decreases-lines : goal.decreases-lines
decreases-lines l = length l.rest
