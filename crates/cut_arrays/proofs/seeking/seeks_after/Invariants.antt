use Rattle.std.proofs.Common.{◌≡◌, length, take}
use Rattle.std.specs.Prelude.{option_copied}
use Rattle.cut_arrays.specs.NextSeeks.{seeks_after}
use Rattle.cut_arrays.specs.WindowEnd.{seats_of, standings}
use Rattle.cut_arrays.proofs.seeking.seeks_after.Given as goal

abbrev pub invariant-loop-at : goal.invariant-loop-at
invariant-loop-at l = l.seeks.items ≡ take l.at (seeks_after l.choices l.people (standings l.left l.table) (seats_of (length l.people) (option_copied l.last)))
