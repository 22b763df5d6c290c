use Rattle.std.proofs.Common.{arith}
use Rattle.season_generator.proofs.RowLemmas.{put_three, rounds_go_on}
use Rattle.season_generator.proofs.summary.push_rounds.Goals as goal

pub loop-before-preserved : goal.loop-before-preserved
loop-before-preserved c =
    rounds_go_on c.args.rounds.now c.loop-before.before _ _ _ (omega (arith, c.loop-before-test.true)) c.loop-before.invariant
    (put_three _ _ _ _ _ _ _
    (put_three _ _ _ _ _ _ _ c.in_ok-extend_from_slice.ensures.ok c.in_ok-push_count.ensures.ok c.in_ok-extend_from_slice-2.ensures.ok)
    c.in_ok-push_count-2.ensures.ok c.in_ok-extend_from_slice-3.ensures.ok)
