use Rattle.season_laws.proofs.Stays.{published_replies_stay}
use Rattle.season_laws.proofs.laws.published_replies_stay.Goals as goal

pub returns : goal.returns
returns c = published_replies_stay c.cutoffs_are_one.ensures
