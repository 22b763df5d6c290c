use Rattle.replays.proofs.OneEnd.{one_end}
use Rattle.replays.proofs.laws.one_end.Goals as goal

pub returns : goal.returns
returns c facts kept sound = one_end facts kept sound (c.next_rounds_are_one.ensures facts sound)
