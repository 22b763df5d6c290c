use Rattle.std.proofs.Common.{rules}
use Rattle.audit_command.proofs.AuditEnds.{audit_is_written, dossier_is_audited, fault_is_refused}
use Rattle.audit_command.proofs.write.audit_season.Goals as goal

pub returns : goal.returns
returns g c =
    let answer = c.audit_answer-answer.ensures in
    let told = c.write_audit.ensures.told in record {
      written = audit_is_written _ _ c.audit_answer-answer.result c.write_audit.result _ _ _ answer.output answer.failure told;
      read_whole = search rules;
      blamed = search rules;
      complete = λ tells held. dossier_is_audited _ _ c.audit_answer-answer.result c.write_audit.result _ _ _ c.one_audit.ensures answer.failure told tells held.0 held.1;
      refused = λ tells held. fault_is_refused _ _ c.audit_answer-answer.result c.write_audit.result _ _ _ c.one_audit.ensures answer.output answer.failure told tells held.0 held.1;
    }
