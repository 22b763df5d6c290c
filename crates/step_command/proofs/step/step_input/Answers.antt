use Rattle.office_base.specs.Limits.{most_sheet_bytes}
use Rattle.step_command.specs.Step.{step_answers}
use Rattle.command_answers.proofs.Ended.{left_failed, long_left}
use Rattle.step_command.proofs.step.step_input.Goals as goal

pub returns-in-Err-TooLong-clause-read : goal.returns-in-Err-TooLong-clause-read
returns-in-Err-TooLong-clause-read g c = record {
  output = tt;
  ended = tt;
  failure =
      let long = long_left most_sheet_bytes _ _ (c.in-Err-TooLong.ensures.too_long (cc)) in
      left_failed step_answers long.0 _ _ c.too_long.result long.1 (c.too_long.ensures long.0 long.2);
  count = c.read_whole.ensures.blamed.count;
  steady = λ _. c.read_whole.ensures.blamed.steady (λ failed. absurd (cc (c.in-Err-TooLong.is, failed)));
}
