use Rattle.audit_command.proofs.OneAudit.{one_audit_of}
use Rattle.audit_command.proofs.laws.one_audit.Goals as goal

pub returns : goal.returns
returns c bytes = one_audit_of bytes (c.one_finding.ensures bytes)
