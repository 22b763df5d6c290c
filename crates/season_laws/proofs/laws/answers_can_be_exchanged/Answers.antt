use Rattle.season_laws.proofs.Exchanged as exchanged
use Rattle.season_laws.proofs.laws.answers_can_be_exchanged.Goals as goal

pub returns : goal.returns
returns c = exchanged.answers_can_be_exchanged
