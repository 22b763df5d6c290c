use Rattle.std.proofs.Common.{sym, subst, ◌∙◌, inl, inr, arith}
use Rattle.std.proofs.lemmas.Bool.{cases_eq, false≢true}
use Rattle.publish.specs.Pieces.{BeginsCode}
use Rattle.publish.proofs.pieces.begins_seat.Goals as goal

pub loop-prog-preserved : goal.loop-prog-preserved
loop-prog-preserved c = λ k below begins. elim (cases_eq k c.loop-prog.prog) [
  | inl same ↦ false≢true (sym c.if-begins_code.false ∙ c.begins_code.ensures.1 (subst (λ z. BeginsCode c.args.matrix.now z c.args.piece.now) same begins))
  | inr other ↦ c.loop-prog.invariant k (omega (arith, below, other)) begins
]

pub returns : goal.returns
returns c = (
  λ t. absurd (false≢true t),
  λ b. absurd (c.loop-prog.invariant b.prog (omega (arith, b.within, c.count-prog-end.ensures.count, c.loop-prog-test.false)) b.begins),
)
