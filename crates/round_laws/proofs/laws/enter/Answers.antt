use Rattle.round_laws.proofs.Season.{entrants, same_choices}
use Rattle.round_laws.proofs.laws.enter.Goals as goal

pub returns : goal.returns
returns c = λ ranks table more lists sound choices aligned same. entrants ranks more lists sound (same_choices ranks table more lists same choices) aligned
