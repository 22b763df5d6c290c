use Rattle.std.proofs.Common.{◌≡◌, drop}
use Rattle.programme_lists.specs.Programme.{is_taken}
use Rattle.explain.proofs.reason.is_taken.Given as goal

abbrev pub invariant-loop-other : goal.invariant-loop-other
invariant-loop-other l = is_taken (drop l.other-index l.taken) l.person ≡ is_taken l.taken l.person
