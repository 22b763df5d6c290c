use Rattle.std.proofs.Common.{◌≤◌, ◌==◌, Some, length, drop}
use Rattle.std.specs.Prelude.{◌-◌}
use Rattle.csv.specs.Writing.{text_written}
use Rattle.quota_units.specs.Quoted.{IsAt, fields_text, row_text, spaced_row}
use Rattle.quota_units.proofs.WriterLemmas.{Leaves}
use Rattle.quota_units.proofs.writer.write_row.Given as goal

abbrev pub invariant-fields : goal.invariant-fields
invariant-fields l = record {
  within : l.at ≤ length l.row.row;
  at : IsAt l.at l.writer;
  text : Leaves (text_written (λ v. Some v.items) l.fn.writer) (text_written (λ v. Some v.items) l.writer) (fields_text (l.at == 0) (drop l.at (spaced_row l.row.row))) (row_text (spaced_row l.row.row));
}

abbrev pub decreases-fields : goal.decreases-fields
decreases-fields l = length l.row.row - l.at
