use Rattle.history_laws.proofs.Raises.{seats_only_rise}
use Rattle.history_laws.proofs.laws.seats_only_rise.Goals as goal

pub returns : goal.returns
returns c = seats_only_rise c.one_step_changes.ensures
