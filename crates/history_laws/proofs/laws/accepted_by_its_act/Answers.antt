use Rattle.history_laws.proofs.Acts.{accepted_by_its_act}
use Rattle.history_laws.proofs.laws.accepted_by_its_act.Goals as goal

pub returns : goal.returns
returns c = accepted_by_its_act
