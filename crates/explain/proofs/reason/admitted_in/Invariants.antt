use Rattle.std.proofs.Common.{◌≡◌, drop}
use Rattle.explain.specs.Reason.{admitted_in}
use Rattle.explain.proofs.reason.admitted_in.Given as goal

abbrev pub invariant-loop-list : goal.invariant-loop-list
invariant-loop-list l = admitted_in (drop l.list-index l.lists) l.person ≡ admitted_in l.lists l.person
