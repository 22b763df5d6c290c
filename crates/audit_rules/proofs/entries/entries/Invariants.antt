use Rattle.std.proofs.Common.{◌≡◌, take}
use Rattle.audit_rules.specs.Comes.{told_by}
use Rattle.audit_rules.specs.Entries.{entries_from}
use Rattle.audit_rules.proofs.entries.entries.Given as goal

abbrev pub invariant-loop-p : goal.invariant-loop-p
invariant-loop-p l = l.entries.items ≡ entries_from 0 (take l.p (told_by l.lists))
