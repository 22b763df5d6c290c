use Rattle.std.proofs.Common.{refl}
use Rattle.season_trials.proofs.worked_scripts.no_show_is_lost.Goals as goal

pub returns : goal.returns
returns c = (refl, refl, refl)
