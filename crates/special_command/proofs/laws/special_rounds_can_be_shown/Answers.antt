use Rattle.special_command.proofs.Shown.{can_be_shown}
use Rattle.special_command.proofs.laws.special_rounds_can_be_shown.Goals as goal

pub returns : goal.returns
returns c = can_be_shown
