use Rattle.http_wire.proofs.MessagesLemmas.{settled_one}
use Rattle.http_wire.proofs.laws.the_cut_does_not_matter.Goals as goal

pub returns : goal.returns
returns c = settled_one
