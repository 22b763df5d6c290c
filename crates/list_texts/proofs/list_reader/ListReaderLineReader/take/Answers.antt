use Rattle.std.proofs.Common.{sym, subst}
use Rattle.text_readers.specs.Reading.{IsRefused}
use Rattle.list_texts.specs.ListReader.{list_at, said_by}
use Rattle.list_texts.proofs.StageLines.{end-refused}
use Rattle.list_texts.proofs.list_reader.ListReaderLineReader.take.Goals as goal

pub returns-in-Done-clause-answered : goal.returns-in-Done-clause-answered
returns-in-Done-clause-answered c =
    let s = c.args.self.now in
    subst (λ st. IsRefused (list_at st s) c.args.line.now) (sym c.in-Done.is) (end-refused (said_by s) c.args.line.now)
