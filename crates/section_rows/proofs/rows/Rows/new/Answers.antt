use Rattle.std.proofs.Common.{[]}
use Rattle.section_rows.proofs.RecordLemmas.{at-start}
use Rattle.section_rows.proofs.rows.Rows.new.Goals as goal

pub returns : goal.returns
returns c = λ i. record { row = []; left = at-start c.from_reader.result c.args.body.now c.from_reader.ensures.state c.from_reader.ensures.source i }
