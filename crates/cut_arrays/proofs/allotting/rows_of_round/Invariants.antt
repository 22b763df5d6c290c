use Rattle.std.proofs.Common.{◌≡◌, ◌++◌, drop}
use Rattle.cut_arrays.specs.Rows.{rows_of_seats}
use Rattle.cut_arrays.proofs.allotting.rows_of_round.Given as goal

abbrev pub invariant-loop-at : goal.invariant-loop-at
invariant-loop-at l = l.rows ++ rows_of_seats l.number (drop l.at l.people) (drop l.at l.seats) ≡ rows_of_seats l.number l.people l.seats
