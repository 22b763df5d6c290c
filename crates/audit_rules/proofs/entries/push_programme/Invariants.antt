use Rattle.std.proofs.Common.{◌≡◌, ◌++◌, drop}
use Rattle.office_base.specs.CategorySteps.{all_steps}
use Rattle.audit_rules.specs.Entries.{of_kinds, of_programme}
use Rattle.audit_rules.proofs.entries.push_programme.Given as goal

abbrev pub invariant-loop-step : goal.invariant-loop-step
invariant-loop-step l = l.entries.items ++ of_kinds l.prog.0 l.programme (drop l.step-index all_steps) ≡ l.fn.entries.items ++ of_programme l.prog.0 l.programme
