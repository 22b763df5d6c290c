use Rattle.std.proofs.Common.{◌≡◌, ◌+◌, length}
use Rattle.section_rows.specs.Rows.{rows_of}
use Rattle.season_file.specs.Head.{head_after, head_of, key_count}
use Rattle.season_file.proofs.head.read_head.Given as goal

abbrev pub invariant-rows : goal.invariant-rows
invariant-rows l = record {
  value : head_of (rows_of l.fn.body) ≡ head_after l.keys l.number l.rows.left;
  count : l.number ≡ key_count l.keys + 1;
}

abbrev pub decreases-rows : goal.decreases-rows
decreases-rows l = length l.rows.left
