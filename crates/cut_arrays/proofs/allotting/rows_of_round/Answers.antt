use Rattle.std.proofs.Common.{arith, None}
use Rattle.std.proofs.lemmas.Option.{slice_get-get_or}
use Rattle.cut_arrays.proofs.RowLemmas.{rows_more}
use Rattle.cut_arrays.proofs.allotting.rows_of_round.Goals as goal

pub loop-at-preserved : goal.loop-at-preserved
loop-at-preserved c =
    rows_more _ _ _ _ _ _ _ _ _ c.loop-at-test.true (slice_get-get_or c.args.seats.now c.loop-at.at None (omega (arith, c.loop-at-test.true, c.requires))) c.in_ok-push_row.ensures c.loop-at.invariant
