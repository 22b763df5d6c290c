use Rattle.std.proofs.Common.{◌≡◌, ◌+◌, true, length}
use Rattle.quota_units.specs.Input.{before_bundle}
use Rattle.quota_units.proofs.head.before_bundle.Given as goal

abbrev pub invariant-lines : goal.invariant-lines
invariant-lines l = record {
  value : before_bundle true l.fn.bytes ≡ l.count + before_bundle true l.rest;
  whole : length l.fn.bytes ≡ l.count + length l.rest;
}

abbrev pub decreases-lines : goal.decreases-lines
decreases-lines l = length l.rest
