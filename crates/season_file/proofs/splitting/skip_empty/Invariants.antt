use Rattle.std.proofs.Common.{◌≡◌, length}
use Rattle.season_file.specs.Bundle.{skip_empty}
use Rattle.season_file.proofs.splitting.skip_empty.Given as goal

abbrev pub invariant-lines : goal.invariant-lines
invariant-lines l = skip_empty l.fn.bytes ≡ skip_empty l.rest

abbrev pub decreases-lines : goal.decreases-lines
decreases-lines l = length l.rest
