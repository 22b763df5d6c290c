use Rattle.std.proofs.Common.{◌≡◌, take}
use Rattle.audit_rules.specs.Groups.{picked}
use Rattle.audit_rules.proofs.groups.pick.Given as goal

abbrev pub invariant-loop-at : goal.invariant-loop-at
invariant-loop-at l = l.some.items ≡ picked l.people (take l.at-index l.places)
