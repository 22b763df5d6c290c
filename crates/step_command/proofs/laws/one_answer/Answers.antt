use Rattle.step_command.proofs.OneAnswer.{one_step_answer}
use Rattle.step_command.proofs.laws.one_answer.Goals as goal

pub returns : goal.returns
returns c bytes = one_step_answer (record { sheets = c.one_reading.ensures; steps = c.sound_steps.ensures; choice = c.one_choice.ensures; certificate = c.one_certificate.ensures }) bytes
