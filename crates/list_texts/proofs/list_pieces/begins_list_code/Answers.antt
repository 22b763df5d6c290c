use Rattle.std.proofs.Common.{sym, ◌∙◌, arith}
use Rattle.std.proofs.lemmas.Bool.{false≢true}
use Rattle.list_texts.proofs.list_pieces.begins_list_code.Goals as goal

pub returns : goal.returns
returns c = (
  λ t. absurd (false≢true t),
  λ b. absurd (false≢true (sym (c.loop-prog.invariant b.prog (omega (arith, b.within, c.count-prog-end.ensures.count, c.loop-prog-test.false))) ∙ b.begins)),
)
