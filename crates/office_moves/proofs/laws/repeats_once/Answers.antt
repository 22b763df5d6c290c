use Rattle.office_moves.proofs.Repeats.{repeats_once}
use Rattle.office_moves.proofs.laws.repeats_once.Goals as goal

pub returns : goal.returns
returns c = repeats_once
