use Rattle.std.proofs.Common.{◌≡◌, ◌+◌, List, length}
use Rattle.section_rows.specs.Rows.{rows_of}
use Rattle.section_rows.specs.Table.{entries_from, table_of}
use Rattle.section_rows.proofs.table.read_table.Given as goal

abbrev pub invariant-rows : goal.invariant-rows
invariant-rows g l =
    let B = g.B.TableBuilder in
    let reading = B.reading (B.beside l.fn.builder) in
    (entries : List B.Entry) × (entries_from reading (l.number + 1) entries l.rows.left ≡ table_of B.bad B.names reading (rows_of l.fn.body)) × B.keeps l.builder entries
    × (B.beside l.builder ≡ B.beside l.fn.builder)

abbrev pub decreases-rows : goal.decreases-rows
decreases-rows g l = length l.rows.left
