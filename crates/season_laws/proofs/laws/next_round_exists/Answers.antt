use Rattle.season_laws.proofs.NextRounds.{next_round}
use Rattle.season_laws.proofs.laws.next_round_exists.Goals as goal

pub returns : goal.returns
returns c = next_round (record { well = c.choose_well.ensures; exists = c.programme_choice_exists.ensures; once = c.admitted_once.ensures })
