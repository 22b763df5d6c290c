use Rattle.audit_command.proofs.AuditFaults.{fault_failed}
use Rattle.audit_command.proofs.read.found_in.Goals as goal

pub returns-in-Err-clause-failure : goal.returns-in-Err-clause-failure
returns-in-Err-clause-failure c = fault_failed c.args.bytes.now c.in-Err.fault c.failure_of.result c.in-Err.ensures.fault c.failure_of.ensures
