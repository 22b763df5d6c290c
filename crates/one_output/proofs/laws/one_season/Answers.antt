use Rattle.one_output.proofs.Seasons as seasons
use Rattle.one_output.proofs.laws.one_season.Goals as goal

pub returns : goal.returns
returns c = seasons.give_one_season c.one_reading.ensures
