use Rattle.std.proofs.Common.{Some}
use Rattle.csv.specs.Writing.{fields_written, text_written, writer_setup}
use Rattle.quota_units.proofs.WriterLemmas.{field-written}
use Rattle.quota_units.proofs.writer.write_field.Goals as goal

pub returns-in-Ok-clause-text : goal.returns-in-Ok-clause-text
returns-in-Ok-clause-text c =
    field-written (writer_setup c.args.writer.now) (fields_written c.args.writer.now) c.args.at c.args.field.now (text_written (λ v. Some v.items) c.args.writer.now)
    (text_written (λ v. Some v.items) c.write_field.new.self) c.requires.setup c.requires.count c.in-Ok.ensures.text
