use Rattle.office_moves.proofs.OneState.{one_reply}
use Rattle.office_moves.proofs.laws.one_reply.Goals as goal

pub returns : goal.returns
returns c = one_reply
