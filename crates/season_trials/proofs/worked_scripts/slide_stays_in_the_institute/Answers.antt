use Rattle.std.proofs.Common.{refl}
use Rattle.season_trials.proofs.worked_scripts.slide_stays_in_the_institute.Goals as goal

pub returns : goal.returns
returns c = (refl, refl)
