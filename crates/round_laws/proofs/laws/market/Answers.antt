use Rattle.rounds.proofs.Entrants as entrants
use Rattle.round_laws.proofs.laws.market.Goals as goal

pub returns : goal.returns
returns c = λ table people lists seeks seats enter. entrants.market table people lists seeks seats enter
