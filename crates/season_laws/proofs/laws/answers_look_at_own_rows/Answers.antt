use Rattle.season_laws.proofs.Looks.{answers_look}
use Rattle.season_laws.proofs.laws.answers_look_at_own_rows.Goals as goal

pub returns : goal.returns
returns c = answers_look
