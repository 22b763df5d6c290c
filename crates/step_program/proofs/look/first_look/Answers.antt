use Rattle.std.proofs.Common.{refl}
use Rattle.command_answers.proofs.Streamed.{text_answered, usage_refused}
use Rattle.step_command.specs.Step.{step_answers}
use Rattle.step_program.proofs.look.first_look.Goals as goal

pub returns-then-asks_for_a_step-clause-step : goal.returns-then-asks_for_a_step-clause-step
returns-then-asks_for_a_step-clause-step g c is =
    text_answered step_answers _ _ c.step_answer.result c.finish.result c.one_answer.ensures c.step_answer.ensures c.finish.ensures

pub returns-else-asks_for_a_step-clause-usage : goal.returns-else-asks_for_a_step-clause-usage
returns-else-asks_for_a_step-clause-usage g c other = usage_refused _ _ c.tell_usage.result (refl, refl) c.tell_usage.ensures
