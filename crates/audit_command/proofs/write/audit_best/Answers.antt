use Rattle.std.proofs.Common.{rules}
use Rattle.audit_command.proofs.AuditEnds.{dossier_is_audited}
use Rattle.audit_command.proofs.BestEnds.{as_audit, best_is_refused, best_is_written}
use Rattle.audit_command.proofs.write.audit_best.Goals as goal

pub returns : goal.returns
returns g c =
    let answer = c.best_answer-answer.ensures in
    let told = c.write_audit.ensures.told in record {
      written = best_is_written _ _ c.best_answer-answer.result c.write_audit.result _ _ _ answer.output answer.failure told;
      read_whole = search rules;
      blamed = search rules;
      complete = λ tells held. dossier_is_audited _ _ c.best_answer-answer.result c.write_audit.result _ _ _ c.one_audit.ensures (as_audit _ _ c.best_answer-answer.result answer.failure) told tells held.0 held.1;
      refused = λ tells held. best_is_refused _ _ c.best_answer-answer.result c.write_audit.result _ _ _ c.one_audit.ensures answer.output answer.failure told tells held.0 held.1;
    }
