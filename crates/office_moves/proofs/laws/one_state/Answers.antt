use Rattle.office_moves.proofs.OneState.{one_state}
use Rattle.office_moves.proofs.laws.one_state.Goals as goal

pub returns : goal.returns
returns c = one_state
