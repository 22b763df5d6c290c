use Rattle.history_laws.proofs.Acts.{history_grows}
use Rattle.history_laws.proofs.laws.history_grows.Goals as goal

pub returns : goal.returns
returns c = history_grows
