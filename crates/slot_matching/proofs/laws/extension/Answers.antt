use Rattle.placements.proofs.Ranks.{extension}
use Rattle.slot_matching.proofs.laws.extension.Goals as goal

pub returns : goal.returns
returns c = λ protections people some n distinct in_some can h. extension protections some people n distinct in_some can h
