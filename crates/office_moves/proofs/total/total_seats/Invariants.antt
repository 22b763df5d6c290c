use Rattle.std.proofs.Common.{◌≡◌, take}
use Rattle.office_moves.specs.Raised.{sum_of_seats}
use Rattle.office_moves.proofs.total.total_seats.Given as goal

abbrev pub invariant-loop-number : goal.invariant-loop-number
invariant-loop-number l = l.total ≡ sum_of_seats (take l.number l.matrix.steps)
