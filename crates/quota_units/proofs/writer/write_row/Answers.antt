use Rattle.std.proofs.Common.{Some, ◌∙◌, ap, arith}
use Rattle.std.proofs.lemmas.List.{append-nil}
use Rattle.csv.specs.Writing.{text_written}
use Rattle.quota_units.specs.Quoted.{row_text, spaced, spaced_row}
use Rattle.quota_units.proofs.WriterLemmas.{row-step}
use Rattle.quota_units.proofs.writer.write_row.Goals as goal

pub fields-preserved : goal.fields-preserved
fields-preserved c = record {
  within = omega arith;
  at = c.in_ok-write_field.ensures.at;
  text =
      row-step c.args.row.now.row c.fields.at (text_written (λ v. Some v.items) c.args.writer.now) (text_written (λ v. Some v.items) c.fields.writer) (text_written (λ v. Some v.items) c.write_field.new.writer)
      c.as_slice.result.now (row_text (spaced_row c.args.row.now.row)) (omega arith) (c.as_slice.ensures.value ∙ c.in_ok-put_spaced.ensures ∙ ap spaced (append-nil c.field.result.now ∙ c.field.ensures)) c.fields.invariant.text c.in_ok-write_field.ensures.text;
}
