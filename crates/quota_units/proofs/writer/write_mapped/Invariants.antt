use Rattle.std.proofs.Common.{◌≤◌, Some, length}
use Rattle.std.specs.Prelude.{◌-◌}
use Rattle.csv.specs.Writing.{text_written}
use Rattle.quota_units.specs.Quoted.{IsAt}
use Rattle.quota_units.proofs.WritingLemmas.{IsStill}
use Rattle.quota_units.proofs.writer.write_mapped.Given as goal

abbrev pub invariant-fields : goal.invariant-fields
invariant-fields l = record {
  within : l.at ≤ length l.row.row;
  at : IsAt l.at l.writer;
  text : IsStill l.tables.units.now l.tables.states.now l.number l.row.row (text_written (λ v. Some v.items) l.fn.writer) (text_written (λ v. Some v.items) l.writer) l.at;
}

abbrev pub decreases-fields : goal.decreases-fields
decreases-fields l = length l.row.row - l.at
