use Rattle.std.proofs.Common.{◌↔◌, IsTrue, sym, subst, ◌∙◌}
use Rattle.text_readers.specs.Reading.{Begins}
use Rattle.list_texts.specs.ListLines.{BeginsLine, IsStepHead, step_words, steps_text}
use Rattle.list_texts.proofs.LineThen.{form-from, form-to}
use Rattle.list_texts.proofs.StageLines.{last-form, step-form}
use Rattle.list_texts.proofs.list_reader.begins_next_step.Goals as goal

pub returns-in-Some : goal.returns-in-Some
returns-in-Some c = λ said.
    let table = c.args.matrix.now in
    let people = c.args.register.now.people in
    let piece = c.args.piece.now in
    let kind = c.in-Some.kind in
    subst (λ z. IsTrue c.begins_step_head.result ↔ Begins (steps_text people z said) piece) (sym c.in-Some.ensures.some) (
      λ begins. form-from (step-form table people c.requires.known said kind _) piece (subst (λ n. BeginsLine (step_words kind) (IsStepHead n) piece) c.count_people.ensures (c.begins_step_head.ensures.0 begins)),
      λ b. c.begins_step_head.ensures.1 (subst (λ n. BeginsLine (step_words kind) (IsStepHead n) piece) (sym c.count_people.ensures) (form-to (step-form table people c.requires.known said kind _) piece c.requires.piece b)),
    )

pub returns-in-None : goal.returns-in-None
returns-in-None c = λ said.
    let table = c.args.matrix.now in
    let people = c.args.register.now.people in
    let piece = c.args.piece.now in
    subst (λ z. IsTrue c.begins_whole.result ↔ Begins (steps_text people z said) piece) (sym c.in-None.ensures.none) (
      λ begins. form-from (last-form table people c.requires.known said) piece (record { part = tt; may = tt; begins = sym c.begins_whole.ensures ∙ begins }),
      λ b. c.begins_whole.ensures ∙ (form-to (last-form table people c.requires.known said) piece c.requires.piece b).begins,
    )
