use Rattle.std.proofs.lemmas.Result.{err_from_is_err_and}
use Rattle.step_command.specs.Reading.{rest_rows, rest_numbers}
use Rattle.step_command.specs.Sheet.{body_judge, cand_judge, none_named}
use Rattle.step_command.proofs.RowLemmas.{error_passed, faultless_passed}
use Rattle.step_command.proofs.sheet.body.Goals as goal

pub returns-in_err-candidates-in-Ok-clause-fault : goal.returns-in_err-candidates-in-Ok-clause-fault
returns-in_err-candidates-in-Ok-clause-fault c = let p = err_from_is_err_and c.from_residual.result c.from_residual.ensures.1 in
    rw (p.1, p.2) (error_passed (body_judge c.args.seats none_named) cand_judge (rest_rows c.args.bytes.now) (rest_rows c.in-Ok.rest.now) (rest_numbers c.args.number c.args.bytes.now) (rest_numbers c.in-Ok.next c.in-Ok.rest.now) c.in_err-candidates-in-Ok.field-0.0 c.in-Ok.ensures.read.passed c.in_err-candidates-in-Ok.ensures.fault)

pub returns-in_ok-candidates-in-Ok-clause-faultless : goal.returns-in_ok-candidates-in-Ok-clause-faultless
returns-in_ok-candidates-in-Ok-clause-faultless c =
    faultless_passed (body_judge c.args.seats none_named) cand_judge (rest_rows c.args.bytes.now) (rest_rows c.in-Ok.rest.now) (rest_numbers c.args.number c.args.bytes.now) (rest_numbers c.in-Ok.next c.in-Ok.rest.now) c.in-Ok.ensures.read.passed c.in_ok-candidates-in-Ok.ensures.faultless
