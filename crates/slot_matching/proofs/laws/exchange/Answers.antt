use Rattle.placements.proofs.Ranks.{exchange, placed_end}
use Rattle.slot_matching.proofs.laws.exchange.Goals as goal

pub returns : goal.returns
returns c = λ protections all some more distinct in_some in_more can_some can_more less.
    let joins = exchange protections all some more distinct in_some in_more can_some can_more less in
    (joins.0, joins.1, joins.2, joins.3, placed_end protections joins.0 some joins.3)
