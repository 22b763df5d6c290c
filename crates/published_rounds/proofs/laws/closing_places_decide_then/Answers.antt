use Rattle.published_rounds.proofs.FairThen as then
use Rattle.published_rounds.proofs.laws.closing_places_decide_then.Goals as goal

pub returns : goal.returns
returns c = then.closing_places_decide_then c.orderly.ensures c.published_rounds_are_justified.ensures
