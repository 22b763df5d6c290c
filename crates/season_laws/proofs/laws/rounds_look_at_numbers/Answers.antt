use Rattle.season_laws.proofs.Looks.{rounds_look}
use Rattle.season_laws.proofs.laws.rounds_look_at_numbers.Goals as goal

pub returns : goal.returns
returns c = rounds_look
