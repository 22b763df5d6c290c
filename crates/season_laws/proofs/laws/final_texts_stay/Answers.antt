use Rattle.season_laws.proofs.TextsStay as stays
use Rattle.season_laws.proofs.laws.final_texts_stay.Goals as goal

pub returns : goal.returns
returns c = stays.final_texts_stay c.windows_pass.ensures
