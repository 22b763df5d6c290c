use Rattle.std.proofs.Common.{drop}
use Rattle.std.specs.Prelude.{◌≤◌}
use Rattle.office_base.specs.Lists.{IsAmong}
use Rattle.list_audit.proofs.outside.place_from.Given as goal

abbrev pub invariant-loop-at : goal.invariant-loop-at
invariant-loop-at l = (l.from ≤ l.at) × (IsAmong l.person (drop l.from l.people) → IsAmong l.person (drop l.at l.people))
