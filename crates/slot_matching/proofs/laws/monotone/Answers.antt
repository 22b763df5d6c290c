use Rattle.placements.proofs.Ranks.{monotone}
use Rattle.slot_matching.proofs.laws.monotone.Goals as goal

pub returns : goal.returns
returns c = monotone
