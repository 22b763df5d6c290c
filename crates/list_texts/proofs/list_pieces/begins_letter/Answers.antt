use Rattle.std.proofs.Common.{sym, ◌∙◌, arith}
use Rattle.std.proofs.lemmas.Bool.{false≢true}
use Rattle.list_texts.proofs.list_pieces.begins_letter.Goals as goal

pub returns : goal.returns
returns c = (
  λ t. absurd (false≢true t),
  λ b. absurd (false≢true (sym (c.loop-slot.invariant b.slot (omega (arith, b.within, c.loop-slot-test.false))) ∙ b.begins)),
)
