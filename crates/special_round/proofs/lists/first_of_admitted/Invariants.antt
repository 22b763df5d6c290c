use Rattle.std.proofs.Common.{◌≡◌, ◌+◌, length}
use Rattle.section_rows.specs.Rows.{rows_of}
use Rattle.special_round.specs.Season.{admitted_from, first_admitted}
use Rattle.special_round.proofs.lists.first_of_admitted.Given as goal

abbrev pub invariant-rows : goal.invariant-rows
invariant-rows l = first_admitted l.finals (rows_of l.lists) ≡ admitted_from l.finals (l.number + 1) l.rows.left

abbrev pub decreases-rows : goal.decreases-rows
decreases-rows l = length l.rows.left
