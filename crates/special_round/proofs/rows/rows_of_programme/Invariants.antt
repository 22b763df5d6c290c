use Rattle.std.proofs.Common.{◌≡◌, ◌++◌, drop}
use Rattle.std.specs.List.{filter}
use Rattle.special_round.specs.Rows.{is_row_in}
use Rattle.special_round.proofs.rows.rows_of_programme.Given as goal

abbrev pub invariant-loop-row : goal.invariant-loop-row
invariant-loop-row l = l.own.items ++ filter (is_row_in l.prog.0) (drop l.row-index l.rows) ≡ filter (is_row_in l.prog.0) l.rows
