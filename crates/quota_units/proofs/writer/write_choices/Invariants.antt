use Rattle.std.proofs.Common.{Some, length}
use Rattle.csv.specs.Writing.{text_written}
use Rattle.quota_units.specs.Mapping.{mapped_from}
use Rattle.quota_units.specs.Quoted.{IsAt}
use Rattle.quota_units.proofs.WritingLemmas.{StillRows}
use Rattle.quota_units.proofs.writer.write_choices.Given as goal

abbrev pub invariant-rows : goal.invariant-rows
invariant-rows l = record {
  at : IsAt 0 l.writer;
  text : StillRows (text_written (λ v. Some v.items) l.fn.writer) (text_written (λ v. Some v.items) l.writer) (mapped_from l.tables.units.now l.tables.states.now l.number l.rows.left) (mapped_from l.tables.units.now l.tables.states.now 2 l.fn.rows.left);
}

abbrev pub decreases-rows : goal.decreases-rows
decreases-rows l = length l.rows.left
