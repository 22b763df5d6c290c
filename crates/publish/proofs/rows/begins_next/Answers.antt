use Rattle.std.proofs.Common.{◌≡◌, ◌+◌, ◌-◌, ◌∷◌, ◌++◌, [], sym, ap, subst, ◌∙◌, arith}
use Rattle.text_readers.specs.Parts.{is_prefix}
use Rattle.text_readers.specs.Reading.{Begins}
use Rattle.publish.specs.Pieces.{BeginsRows}
use Rattle.publish.specs.Rows.{IsRest}
use Rattle.publish.proofs.RowsLemmas.{begins-end, begins-rows, end-begins, rows-begin}
use Rattle.publish.proofs.rows.begins_next.Goals as goal

pub returns-then-left-eq0 : goal.returns-then-left-eq0
returns-then-left-eq0 c = λ number rows.
    let same = c.begins_whole.ensures ∙ ap (λ z. is_prefix c.args.piece.now (z ++ 10 ∷ [])) c.last_line.ensures in (
      λ read. subst (λ z. Begins (IsRest c.args.sort c.args.matrix.now c.args.people.now number z rows) c.args.piece.now) (sym c.if-left-eq0.true)
          (end-begins c.args.sort c.args.matrix.now c.args.people.now number rows c.requires.spelled c.requires.small c.args.piece.now (sym same ∙ read)),
      λ begins. same ∙ begins-end c.args.sort c.args.matrix.now c.args.people.now number rows c.requires.spelled c.requires.small c.args.piece.now c.requires.piece
          (subst (λ z. Begins (IsRest c.args.sort c.args.matrix.now c.args.people.now number z rows) c.args.piece.now) c.if-left-eq0.true begins),
    )

pub returns-else-left-eq0 : goal.returns-else-left-eq0
returns-else-left-eq0 c = λ number rows.
    let more : c.args.left ≡ (c.args.left - 1) + 1 = omega (arith, c.if-left-eq0.false) in (
      λ read. rows-begin c.args.sort c.args.matrix.now c.args.people.now number rows c.requires.spelled c.requires.small c.args.left (c.args.left - 1) c.args.piece.now more
          (subst (λ z. BeginsRows z c.args.matrix.now c.args.left c.args.people.now c.args.piece.now) c.row_word.ensures (c.begins_rows.ensures.0 read)),
      λ begins. c.begins_rows.ensures.1 (subst (λ z. BeginsRows z c.args.matrix.now c.args.left c.args.people.now c.args.piece.now) (sym c.row_word.ensures)
          (begins-rows c.args.sort c.args.matrix.now c.args.people.now number rows c.requires.spelled c.requires.small c.args.left (c.args.left - 1) c.args.piece.now more c.requires.piece begins)),
    )
