use Rattle.std.proofs.Common.{◌≡◌, drop}
use Rattle.explain.specs.Reason.{has_worse}
use Rattle.explain.proofs.reason.has_worse.Given as goal

abbrev pub invariant-loop-other : goal.invariant-loop-other
invariant-loop-other l = has_worse l.list l.person (drop l.other-index l.admitted) ≡ has_worse l.list l.person l.admitted
