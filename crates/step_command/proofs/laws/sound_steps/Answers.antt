use Rattle.step_command.proofs.SoundLemmas.{sound_sheet}
use Rattle.step_command.proofs.laws.sound_steps.Goals as goal

pub returns : goal.returns
returns c = sound_sheet
