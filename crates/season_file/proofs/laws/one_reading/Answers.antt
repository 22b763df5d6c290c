use Rattle.season_file.proofs.LawsLemmas.{one_reading}
use Rattle.season_file.proofs.laws.one_reading.Goals as goal

pub returns : goal.returns
returns c = one_reading (record { register = c.one_reading.ensures; matrix = c.one_reading-2.ensures; choices = c.one_reading-3.ensures })
