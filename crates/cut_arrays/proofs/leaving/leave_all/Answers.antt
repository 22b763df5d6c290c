use Rattle.std.proofs.Common.{arith}
use Rattle.cut_arrays.proofs.LeaveLemmas.{leave_more, leave_whole}
use Rattle.cut_arrays.proofs.leaving.leave_all.Goals as goal

pub loop-at-preserved : goal.loop-at-preserved
loop-at-preserved c = leave_more _ _ _ _ _ _ _ _ _ _ _ c.loop-at.invariant c.loop-at-test.true c.stand.ensures c.given_seat-seat.ensures c.after_cut-standing.ensures c.counted-still.ensures

pub returns-clause-left : goal.returns-clause-left
returns-clause-left c = leave_whole c.loop-at.at _ _ _ _ _ (omega (arith, c.loop-at-test.false)) c.requires.table c.requires.seats c.loop-at.invariant
