use Rattle.placements.proofs.Ranks.{same_people}
use Rattle.slot_matching.proofs.laws.any_order.Goals as goal

pub returns : goal.returns
returns c = same_people
