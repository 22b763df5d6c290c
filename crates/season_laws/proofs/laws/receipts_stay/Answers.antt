use Rattle.season_laws.proofs.TextsStay as stays
use Rattle.season_laws.proofs.laws.receipts_stay.Goals as goal

pub returns : goal.returns
returns c = stays.receipts_stay c.repeats_once.ensures
