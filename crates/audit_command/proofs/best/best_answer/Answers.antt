use Rattle.std.proofs.Common.{rules}
use Rattle.std.proofs.lemmas.Result.{err_from_is_err_and}
use Rattle.audit_command.proofs.BestEnds.{as_best, best_left, verdicts_are}
use Rattle.audit_command.proofs.best.best_answer.Goals as goal

pub answer_to-requires : goal.answer_to-requires
answer_to-requires g c = verdicts_are _ c.in-Ok.found c.in-Ok.ensures.output

pub returns-in_ok-answer_to-in-Ok : goal.returns-in_ok-answer_to-in-Ok
returns-in_ok-answer_to-in-Ok g c = record {
  output = best_left _ c.in-Ok.found c.in_ok-answer_to-in-Ok.field-0 c.in-Ok.ensures.output c.in_ok-answer_to-in-Ok.ensures;
  ended = search rules;
  failure = search rules;
  count = search rules;
  steady = search rules;
}

pub returns-in_err-answer_to-in-Ok : goal.returns-in_err-answer_to-in-Ok
returns-in_err-answer_to-in-Ok g c = let p = err_from_is_err_and c.from_residual.result c.from_residual.ensures.1 in rw (p.1, p.2) (search rules)

pub returns-in-Err : goal.returns-in-Err
returns-in-Err g c = record {
  output = search rules;
  ended = search rules;
  failure = as_best _ _ c.in-Err.failure c.in-Err.ensures.failure;
  count = search rules;
  steady = search rules;
}
