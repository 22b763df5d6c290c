use Rattle.std.proofs.Common.{subst, ◌∙◌}
use Rattle.std.proofs.lemmas.Bool.{false≢true}
use Rattle.text_readers.specs.Parts.{IsApart, IsLeft}
use Rattle.list_texts.proofs.ListPieceLemmas.{name-apart, seats-step, step-apart, step-seats'}
use Rattle.list_texts.proofs.list_pieces.begins_step_head.Goals as goal

pub begins_seats-requires : goal.begins_seats-requires
begins_seats-requires c = c.in-Some-left_after.ensures.some.clear 10 (c.in-Some.ensures.some.clear 10 c.requires)

pub returns-in-Some-left_after : goal.returns-in-Some-left_after
returns-in-Some-left_after c =
    let name = subst (λ z. IsLeft c.in-Some.rest.now z c.in-Some-left_after.rest.now) (c.as_bytes.ensures.value ∙ c.step_name.ensures) c.in-Some-left_after.ensures.some in (
      λ begins. seats-step c.args.kind c.args.most c.args.piece.now c.in-Some.rest.now c.in-Some.ensures.some c.in-Some-left_after.rest.now name (c.begins_seats.ensures.0 begins),
      λ b. c.begins_seats.ensures.1 (step-seats' c.args.kind c.args.most c.args.piece.now c.in-Some.rest.now c.in-Some.ensures.some c.in-Some-left_after.rest.now name b),
    )

pub returns-in-None-left_after : goal.returns-in-None-left_after
returns-in-None-left_after c = (
  λ t. absurd (false≢true t),
  λ b. absurd (name-apart c.args.kind c.args.most c.args.piece.now c.in-Some.rest.now c.in-Some.ensures.some
      (subst (λ z. IsApart c.in-Some.rest.now z) (c.as_bytes.ensures.value ∙ c.step_name.ensures) c.in-None-left_after.ensures.none) b),
)

pub returns-in-None : goal.returns-in-None
returns-in-None c = (λ t. absurd (false≢true t), λ b. absurd (step-apart c.args.kind c.args.most c.args.piece.now c.in-None.ensures.none b))
