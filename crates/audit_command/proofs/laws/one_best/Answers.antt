use Rattle.audit_command.proofs.OneBest.{one_best_of}
use Rattle.audit_command.proofs.laws.one_best.Goals as goal

pub returns : goal.returns
returns c bytes = one_best_of c.one_best_verdict.ensures bytes (c.one_finding.ensures bytes) (c.one_audit.ensures bytes)
