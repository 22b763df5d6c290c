use Rattle.std.proofs.Common.{◌≡◌, length}
use Rattle.section_rows.specs.Rows.{rows_of}
use Rattle.quota_units.specs.Homes.{AreAlike, Homes, homes_from, homes_of, is_key, most_homes}
use Rattle.quota_units.proofs.homes.read_homes.Given as goal

abbrev pub invariant-rows : goal.invariant-rows
invariant-rows l = (homes : Homes) × AreAlike homes l.table × (homes_of l.fn.keys (rows_of l.fn.body) ≡ homes_from (is_key l.fn.keys) (most_homes l.fn.keys) homes l.number l.rows.left)

abbrev pub decreases-rows : goal.decreases-rows
decreases-rows l = length l.rows.left
