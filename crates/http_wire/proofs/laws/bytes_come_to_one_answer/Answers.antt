use Rattle.http_wire.proofs.MessagesLemmas.{one_answer}
use Rattle.http_wire.proofs.laws.bytes_come_to_one_answer.Goals as goal

pub returns : goal.returns
returns c = one_answer
