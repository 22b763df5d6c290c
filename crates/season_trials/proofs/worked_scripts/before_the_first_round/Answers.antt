use Rattle.std.proofs.Common.{refl}
use Rattle.season_trials.proofs.worked_scripts.before_the_first_round.Goals as goal

pub returns : goal.returns
returns c = refl
