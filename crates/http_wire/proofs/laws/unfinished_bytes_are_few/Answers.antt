use Rattle.http_wire.proofs.MessagesLemmas.{unfinished_few}
use Rattle.http_wire.proofs.laws.unfinished_bytes_are_few.Goals as goal

pub returns : goal.returns
returns c = unfinished_few
