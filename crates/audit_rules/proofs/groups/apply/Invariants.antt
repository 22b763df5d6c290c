use Rattle.audit_rules.proofs.Grouping.{Applying}
use Rattle.audit_rules.proofs.groups.apply.Given as goal

abbrev pub invariant-loop-prog : goal.invariant-loop-prog
invariant-loop-prog l = Applying l.fn.groups l.groups l.sought l.fn.seat l.fn.at l.prog-index
