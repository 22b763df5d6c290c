use Rattle.std.proofs.Common.{◌≡◌, ◌++◌, take}
use Rattle.audit_rules.specs.Entries.{of_step}
use Rattle.audit_rules.proofs.entries.push_step.Given as goal

abbrev pub invariant-loop-person : goal.invariant-loop-person
invariant-loop-person l = l.entries.items ≡ l.fn.entries.items ++ of_step l.fn.prog.0 l.fn.step (take l.person-index l.named)
