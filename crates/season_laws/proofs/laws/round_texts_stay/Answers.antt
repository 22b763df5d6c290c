use Rattle.season_laws.proofs.TextsStay as stays
use Rattle.season_laws.proofs.laws.round_texts_stay.Goals as goal

pub returns : goal.returns
returns c = stays.round_texts_stay
