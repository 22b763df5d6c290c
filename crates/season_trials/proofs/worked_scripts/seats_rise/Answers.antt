use Rattle.std.proofs.Common.{refl}
use Rattle.season_trials.proofs.worked_scripts.seats_rise.Goals as goal

pub returns : goal.returns
returns c = (refl, refl)
