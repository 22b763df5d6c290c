use Rattle.std.proofs.Common.{◌≡◌, take}
use Rattle.std.specs.List.{filter}
use Rattle.list_audit.specs.Stand.{stands_for}
use Rattle.list_audit.proofs.stand.standing.Given as goal

abbrev pub invariant-loop-person : goal.invariant-loop-person
invariant-loop-person l = l.some ≡ filter (stands_for l.list l.kind) (take l.person-index l.people)
