use Rattle.std.proofs.Common.{[], ◌∷◌, ◌++◌, ap, is_some, sym, subst, ◌∙◌}
use Rattle.std.proofs.lemmas.Bool.{false≢true}
use Rattle.std.specs.Fmt.{decimal}
use Rattle.std.specs.Prelude.{codes}
use Rattle.text_readers.specs.Reading.{HasNo}
use Rattle.text_readers.proofs.PartsLemmas.{has-no-after}
use Rattle.publish.proofs.HeadPieces.{number-round, round-from, round-number, round-to, whole-from, whole-number, whole-seated}
use Rattle.publish.proofs.head.begins_round_head.Goals as goal

pub begins_seated-requires : goal.begins_seated-requires
begins_seated-requires c =
    has-no-after 10 c.in-Some-split_at_byte.number.now 32 c.in-Some-split_at_byte.rest.now (subst (HasNo 10) c.in-Some-split_at_byte.ensures.some (c.in-Some.ensures.some.clear 10 c.requires))

pub returns-then-is_some : goal.returns-then-is_some
returns-then-is_some c = λ known.
    let number = round-number c.numbers_are_inverse.ensures c.in-Some-split_at_byte.number.now (sym (c.is_some.ensures ∙ ap is_some c.read_number.ensures) ∙ c.if-is_some.true) in (
      λ begins. whole-from c.args.most c.args.piece.now c.in-Some.rest.now c.in-Some.ensures.some c.in-Some-split_at_byte.number.now c.in-Some-split_at_byte.rest.now c.in-Some-split_at_byte.ensures.some c.in-Some-split_at_byte.ensures.first
          number (c.begins_seated.ensures.0 begins) known,
      λ b. c.begins_seated.ensures.1 (whole-seated c.args.most c.args.piece.now c.in-Some.rest.now c.in-Some.ensures.some c.in-Some-split_at_byte.number.now c.in-Some-split_at_byte.rest.now c.in-Some-split_at_byte.ensures.some c.in-Some-split_at_byte.ensures.first known b),
    )

pub returns-else-is_some : goal.returns-else-is_some
returns-else-is_some c = λ known. (
  λ begins. absurd (false≢true (sym c.if-is_some.false ∙ begins)),
  λ b. c.is_some.ensures ∙ ap is_some c.read_number.ensures
      ∙ number-round c.numbers_are_inverse.ensures c.in-Some-split_at_byte.number.now (whole-number c.args.most c.args.piece.now c.in-Some.rest.now c.in-Some.ensures.some c.in-Some-split_at_byte.number.now c.in-Some-split_at_byte.rest.now c.in-Some-split_at_byte.ensures.some c.in-Some-split_at_byte.ensures.first known b),
)

pub returns-in-None-split_at_byte : goal.returns-in-None-split_at_byte
returns-in-None-split_at_byte c = λ known. (
  λ begins. round-from c.args.most c.args.piece.now c.in-Some.rest.now c.in-Some.ensures.some ((c.begins_number.ensures 32 (codes "seated " ++ (decimal 0 ++ 10 ∷ [])) c.in-None-split_at_byte.ensures.none).0 begins) known,
  λ b. (c.begins_number.ensures 32 (codes "seated " ++ (decimal b.count ++ 10 ∷ [])) c.in-None-split_at_byte.ensures.none).1
      (round-to c.args.most c.args.piece.now c.in-Some.rest.now c.in-Some.ensures.some known b),
)
