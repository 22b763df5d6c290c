use Rattle.std.proofs.Common.{◌≡◌, ◌≤◌, length, take}
use Rattle.csv.specs.Records.{fields_of}
use Rattle.section_rows.specs.Rows.{without_empty_end}
use Rattle.section_rows.proofs.rows.used_fields.Given as goal

abbrev pub invariant-loop-count : goal.invariant-loop-count
invariant-loop-count l = (l.count ≤ length (fields_of l.raw)) × (without_empty_end (fields_of l.raw) ≡ without_empty_end (take l.count (fields_of l.raw)))

abbrev pub decreases-loop-count : goal.decreases-loop-count
decreases-loop-count l = l.count
