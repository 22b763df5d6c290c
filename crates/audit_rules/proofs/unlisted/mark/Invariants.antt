use Rattle.std.proofs.Common.{◌≡◌, length, take}
use Rattle.audit_rules.specs.Entries.{AreMarking}
use Rattle.audit_rules.proofs.unlisted.mark.Given as goal

abbrev pub invariant-loop-entry : goal.invariant-loop-entry
invariant-loop-entry l = AreMarking l.register.people l.seats (take l.entry-index l.entries) l.marks l.first × (length l.marks ≡ length l.register.people)
