use Rattle.std.proofs.Common.{inl, refl}
use Rattle.step_command.proofs.StepFaults.{line_is_failure}
use Rattle.step_command.proofs.step.too_long.Goals as goal

pub returns : goal.returns
returns c bytes long = line_is_failure bytes _ c.sheet_failure.result (inl (long, refl)) c.sheet_failure.ensures
