use Rattle.season_laws.proofs.TextsStay as stays
use Rattle.season_laws.proofs.laws.cuts_show_their_rounds.Goals as goal

pub returns : goal.returns
returns c = stays.cuts_show_their_rounds
