use Rattle.published_rounds.proofs.FairThen as then
use Rattle.published_rounds.proofs.laws.no_seat_is_wasted_then.Goals as goal

pub returns : goal.returns
returns c = then.no_seat_is_wasted_then c.orderly.ensures c.no_seat_is_wasted.ensures
