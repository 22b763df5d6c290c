use Rattle.std.proofs.Common.{sym, subst}
use Rattle.text_readers.specs.Reading.{IsRefused}
use Rattle.publish.specs.Reader.{grammar_at}
use Rattle.publish.proofs.StageLemmas.{done-refused}
use Rattle.publish.proofs.rows.RowsReaderLineReader.take.Goals as goal

pub returns-in-Done-clause-answered : goal.returns-in-Done-clause-answered
returns-in-Done-clause-answered c =
    let s = c.args.self.now in
    subst (λ st. IsRefused (grammar_at st s) c.args.line.now) (sym c.in-Done.is) (done-refused s.number s.rows c.args.line.now)
