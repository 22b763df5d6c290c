use Rattle.std.proofs.Common.{◌<◌, ℕ, List, length, sym, ap, ◌∙◌, arith}
use Rattle.std.specs.Prelude.{◌+◌, drop}
use Rattle.office_base.specs.declared.person.ProgId.{ProgId}
use Rattle.choice_lists.specs.Choices.{choices, is_chosen}
use Rattle.choice_lists.proofs.BuilderLemmas.{marks_chosen, marks_others}
use Rattle.choice_lists.proofs.ChoicesLemmas.{choices-more}
use Rattle.choice_lists.proofs.builder.read_programmes.Goals as goal

pub fields-preserved : goal.fields-preserved
fields-preserved c =
    let (same, marks, others) = c.fields.invariant in
    let id : ℕ = c.args.person.now.id.0 in
    let prog = c.in-Ok.prog in
    let before = c.fields.chosen.items in
    let read = sym (c.in-Ok.ensures.given before marks) in
    let pushed = c.in_ok-push-in-Ok.ensures.items in
    let within : c.from.result < length c.fields.named_last = omega (arith, c.from.ensures, c.in-Ok.ensures.known, c.requires.marks, c.fields.auto.named_last) in (
      same
          ∙ choices-more c.args.matrix.now c.args.person.now c.args.row.now.row c.fields.at before c.field.result.now prog (omega (arith, c.fields-test.true, c.len.ensures)) c.field.ensures read
          ∙ ap (λ (l : List ProgId). choices c.args.matrix.now c.args.person.now l (drop (c.fields.at + 1) c.args.row.now.row)) (sym pushed),
      (λ n.
          marks_chosen c.fields.named_last c.from.result id n prog before c.from.ensures within (marks n)
          ∙ ap (λ (l : List ProgId). is_chosen n l) (sym pushed)),
      (λ n q e f. marks_others c.fields.named_last c.from.result id n q e (others n q e f)),
    )
