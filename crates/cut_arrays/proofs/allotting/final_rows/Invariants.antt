use Rattle.std.proofs.Common.{◌≡◌, ◌++◌, length, drop}
use Rattle.std.specs.Prelude.{option_copied}
use Rattle.cut_arrays.specs.Rows.{kept_seats, rows_of_seats}
use Rattle.cut_arrays.specs.WindowEnd.{seats_of, standings}
use Rattle.cut_arrays.proofs.allotting.final_rows.Given as goal

abbrev pub invariant-loop-at : goal.invariant-loop-at
invariant-loop-at l =
    let kept = kept_seats (standings l.left l.table) (seats_of (length l.people) (option_copied l.last)) in
    l.rows ++ rows_of_seats l.number (drop l.at l.people) (drop l.at kept) ≡ rows_of_seats l.number l.people kept
