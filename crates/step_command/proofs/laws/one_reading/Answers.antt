use Rattle.step_command.proofs.SheetLemmas.{one_reading}
use Rattle.step_command.proofs.laws.one_reading.Goals as goal

pub returns : goal.returns
returns c = one_reading
