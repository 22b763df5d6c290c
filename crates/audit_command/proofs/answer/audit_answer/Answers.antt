use Rattle.std.proofs.Common.{rules}
use Rattle.std.proofs.lemmas.Result.{err_from_is_err_and}
use Rattle.audit_command.proofs.AuditFaults.{answer_left}
use Rattle.audit_command.proofs.answer.audit_answer.Goals as goal

pub returns-in_ok-answer_to-in-Ok : goal.returns-in_ok-answer_to-in-Ok
returns-in_ok-answer_to-in-Ok g c = record {
  output = answer_left _ c.in-Ok.found c.in_ok-answer_to-in-Ok.field-0 c.in-Ok.ensures.output c.in_ok-answer_to-in-Ok.ensures;
  ended = search rules;
  failure = search rules;
  count = search rules;
  steady = search rules;
}

pub returns-in_err-answer_to-in-Ok : goal.returns-in_err-answer_to-in-Ok
returns-in_err-answer_to-in-Ok g c = let p = err_from_is_err_and c.from_residual.result c.from_residual.ensures.1 in rw (p.1, p.2) (search rules)
