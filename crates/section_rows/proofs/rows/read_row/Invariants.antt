use Rattle.std.proofs.Common.{◌≡◌, length}
use Rattle.section_rows.specs.Rows.{rows_among}
use Rattle.section_rows.specs.Reading.{IsReading, records_left}
use Rattle.section_rows.proofs.rows.read_row.Given as goal

abbrev pub invariant-records : goal.invariant-records
invariant-records l = IsReading l.reader × (rows_among (records_left l.reader) ≡ rows_among (records_left l.fn.reader))

abbrev pub decreases-records : goal.decreases-records
decreases-records l = length (records_left l.reader)
