use Rattle.std.proofs.Common.{◌≡◌, length, take}
use Rattle.std.specs.Prelude.{option_copied}
use Rattle.cut_arrays.specs.Rows.{kept_seats, programmes_of}
use Rattle.cut_arrays.specs.WindowEnd.{seats_of, standings}
use Rattle.cut_arrays.proofs.allotting.kept_programmes.Given as goal

abbrev pub invariant-loop-at : goal.invariant-loop-at
invariant-loop-at l = l.kept.items ≡ take l.at (programmes_of (kept_seats (standings l.left l.table) (seats_of (length l.left) (option_copied l.last))))
