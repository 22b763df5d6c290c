use Rattle.std.proofs.Common.{refl}
use Rattle.season_trials.proofs.worked_scripts.causes_are_told.Goals as goal

pub returns : goal.returns
returns c = refl
