use Rattle.office_moves.proofs.OwnView.{own_view_only}
use Rattle.office_moves.proofs.laws.own_view_only.Goals as goal

pub returns : goal.returns
returns c = own_view_only
