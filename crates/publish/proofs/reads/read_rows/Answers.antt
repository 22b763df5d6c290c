use Rattle.publish.proofs.WholeLemmas.{some-text}
use Rattle.publish.proofs.reads.read_rows.Goals as goal

pub read_lines-requires-clause-some : goal.read_lines-requires-clause-some
read_lines-requires-clause-some c = some-text c.args.sort c.args.matrix.now c.args.people.now c.args.known
