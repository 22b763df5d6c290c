use Rattle.http_wire.proofs.MessagesLemmas.{none_or_torn}
use Rattle.http_wire.proofs.laws.unfinished_bytes_are_none_or_torn.Goals as goal

pub returns : goal.returns
returns c = none_or_torn
