use Rattle.std.proofs.Common.{◌≡◌, ◌≤◌, ◌++◌, length, drop}
use Rattle.programme_lists.proofs.Walk.{minus}
use Rattle.list_audit.proofs.stand.without.Given as goal

abbrev pub invariant-loop-person : goal.invariant-loop-person
invariant-loop-person l = (l.next ≤ length l.taken) × (l.left ++ minus (drop l.person-index l.people) (drop l.next l.taken) ≡ minus l.people l.taken)
