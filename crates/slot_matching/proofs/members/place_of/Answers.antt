use Rattle.slot_matching.proofs.Found.{nobody_found}
use Rattle.slot_matching.proofs.members.place_of.Goals as goal

-- past the end nobody was found
pub returns : goal.returns
returns c = nobody_found c.args.cand c.args.members.now c.loop-at.at c.requires c.loop-at-test.false c.loop-at.invariant
