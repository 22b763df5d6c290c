use Rattle.std.proofs.Common.{◌≡◌, take}
use Rattle.audit_rules.specs.Papers.{seats_told}
use Rattle.audit_rules.proofs.told.seats_told.Given as goal

abbrev pub invariant-loop-row : goal.invariant-loop-row
invariant-loop-row l = l.seats.items ≡ seats_told (take l.row-index l.rows) l.register.people
