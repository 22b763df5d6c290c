use Rattle.cut_arrays.proofs.RowLemmas.{kept_there, rows_more}
use Rattle.cut_arrays.proofs.allotting.final_rows.Goals as goal

pub loop-at-preserved : goal.loop-at-preserved
loop-at-preserved c =
    rows_more _ _ _ _ _ _ _ _ _ c.loop-at-test.true (kept_there _ _ _ _ _ _ _ _ _ c.loop-at-test.true c.requires.left c.stand-standing.ensures c.round_seat.ensures c.kept_seat-seat.ensures)
    c.in_ok-push_row.ensures c.loop-at.invariant
