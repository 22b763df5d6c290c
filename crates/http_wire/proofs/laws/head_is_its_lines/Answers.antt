use Rattle.http_wire.proofs.LawsLemmas.{are_heads}
use Rattle.http_wire.proofs.laws.head_is_its_lines.Goals as goal

pub returns : goal.returns
returns c = are_heads
