use Rattle.std.proofs.Common.{◌∙◌, inl, inr}
use Rattle.csv.specs.Records.{fields_of}
use Rattle.section_rows.proofs.RecordLemmas.{read-tells, failed-tells}
use Rattle.section_rows.proofs.rows.read_record.Goals as goal

pub returns-in-Ok-clause-reading : goal.returns-in-Ok-clause-reading
returns-in-Ok-clause-reading c =
    let e = c.in-Ok.ensures in
    elim c.requires [
      | inl failed ↦ inl (e.goes ∙ failed)
      | inr plain ↦
          let r = e.reads plain.trim plain.ready in
          inr (record { config = r.2 ∙ plain.config; trim = r.3 ∙ plain.trim; flexible = e.flexible ∙ plain.flexible; ready = inl (e.ready plain.trim); fresh = e.goes ∙ plain.fresh })
    ]

pub returns-in-Ok-clause-more : goal.returns-in-Ok-clause-more
returns-in-Ok-clause-more c =
    let e = c.in-Ok.ensures in
    let a = c.args.reader.now in
    let b = c.read_byte_record.new.self in
    elim c.requires [
      | inl failed ↦ failed-tells a b c.in-Ok.more _ failed (cc (e.failed failed))
      | inr plain ↦ read-tells a b c.in-Ok.more (fields_of c.read_byte_record.new.row) plain (e.reads plain.trim plain.ready)
    ]
