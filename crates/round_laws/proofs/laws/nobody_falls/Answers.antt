use Rattle.round_laws.proofs.InTurn as turn
use Rattle.round_laws.proofs.laws.nobody_falls.Goals as goal

pub returns : goal.returns
returns c = turn.nobody_falls c.choose_well.ensures c.grow.ensures
