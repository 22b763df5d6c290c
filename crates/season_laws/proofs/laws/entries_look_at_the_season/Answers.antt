use Rattle.season_laws.proofs.Looks.{entries_look}
use Rattle.season_laws.proofs.laws.entries_look_at_the_season.Goals as goal

pub returns : goal.returns
returns c = entries_look
