use Rattle.std.proofs.Common.{length}
use Rattle.std.specs.Prelude.{option_copied}
use Rattle.cut_arrays.specs.WindowEnd.{seats_given}
use Rattle.cut_arrays.proofs.LeaveLemmas.{LeaveSome}
use Rattle.cut_arrays.proofs.leaving.leave_all.Given as goal

-- the first are left as the cut leaves them
abbrev pub invariant-loop-at : goal.invariant-loop-at
invariant-loop-at l = LeaveSome l.at l.fn.left l.table (seats_given (length l.fn.left) (option_copied l.seats)) l.left l.still
