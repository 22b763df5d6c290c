use Rattle.std.proofs.Common.{◌≡◌, ◌++◌, length}
use Rattle.quota_units.specs.Quoted.{spaced}
use Rattle.quota_units.proofs.writer.put_spaced.Given as goal

abbrev pub invariant-bytes : goal.invariant-bytes
invariant-bytes l = l.buffer.items ++ spaced l.rest ≡ spaced l.fn.field

abbrev pub decreases-bytes : goal.decreases-bytes
decreases-bytes l = length l.rest
