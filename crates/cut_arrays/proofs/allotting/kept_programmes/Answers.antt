use Rattle.std.proofs.Common.{arith}
use Rattle.cut_arrays.proofs.RowLemmas.{programmes_more, programmes_whole}
use Rattle.cut_arrays.proofs.allotting.kept_programmes.Goals as goal

pub loop-at-preserved : goal.loop-at-preserved
loop-at-preserved c = programmes_more _ _ _ _ _ _ _ _ _ _ _ c.loop-at-test.true c.stand-standing.ensures c.round_seat.ensures c.kept_seat-seat.ensures c.programme_of.ensures c.loop-at.invariant c.in_ok-push.ensures.items

pub returns : goal.returns
returns c = programmes_whole _ _ _ c.loop-at.at _ (omega (arith, c.loop-at-test.false)) c.requires.table c.requires.seats c.loop-at.invariant
