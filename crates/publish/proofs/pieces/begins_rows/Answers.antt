use Rattle.std.proofs.Common.{sym, ◌∙◌, arith}
use Rattle.std.proofs.lemmas.Bool.{false≢true}
use Rattle.publish.proofs.StageLemmas.{rows-skip}
use Rattle.publish.proofs.pieces.begins_rows.Goals.{else-left-people-via-then-left-people+else-begins_row, else-left-people-via-else-left-people}
use Rattle.publish.proofs.pieces.begins_rows.Goals as goal

pub loop-at-preserved : goal.loop-at-preserved
loop-at-preserved c =
    let step = rows-skip c.args.word.now c.args.matrix.now c.args.left c.args.people.now c.args.piece.now c.loop-at.at _ c.loop-at-test.true (λ enough row. elim c.else-left-people.branch [
      | else-left-people-via-then-left-people+else-begins_row w ↦ false≢true (sym w.if-begins_row.false ∙ w.begins_row.ensures.1 row)
      | else-left-people-via-else-left-people w ↦ omega (arith, enough, w.if-left-people.false)
    ]) in
    (λ begins. step.0 (c.loop-at.invariant.0 begins), λ begins. c.loop-at.invariant.1 (step.1 begins))
