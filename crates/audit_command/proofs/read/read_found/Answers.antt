use Rattle.office_base.specs.Limits.{most_bundle_bytes}
use Rattle.audit_command.specs.Audit.{audit_answers}
use Rattle.command_answers.proofs.Ended.{left_failed, long_left}
use Rattle.audit_command.proofs.AuditFaults.{long_failed}
use Rattle.audit_command.proofs.read.read_found.Goals as goal

pub returns-in-Err-TooLong-clause-failure : goal.returns-in-Err-TooLong-clause-failure
returns-in-Err-TooLong-clause-failure g c =
    let long = long_left most_bundle_bytes _ _ (c.in-Err-TooLong.ensures.too_long (cc)) in
    left_failed audit_answers long.0 _ _ c.failure_of.result long.1 (long_failed long.0 c.failure_of.result long.2 c.failure_of.ensures)
