use Rattle.std.proofs.Common.{◌<◌, ◌+◌, length, sym, subst, arith}
use Rattle.text_readers.specs.Reading.{IsRefused, Leads}
use Rattle.list_texts.specs.ListLines.{steps_text}
use Rattle.list_texts.specs.ListReader.{IsInStage, left_at, list_at, most_lines}
use Rattle.list_texts.specs.Listing.{step_kinds}
use Rattle.list_texts.specs.declared.list_stage.ListStage.TheVariants.{Head}
use Rattle.list_texts.proofs.LineThen.{form-leads, form-refused}
use Rattle.list_texts.proofs.StageLines.{head-form}
use Rattle.list_texts.proofs.list_reader.ListReader.take_head.Goals as goal

pub returns-in_default-clause-answered : goal.returns-in_default-clause-answered
returns-in_default-clause-answered c =
    let s = c.args.self.now in
    subst (λ st. IsRefused (list_at st s) c.args.line.now) (sym c.requires.stage) (form-refused (head-form s.matrix.now s.register.now.people c.requires.keeps.known) c.args.line.now c.requires.line c.in_default.ensures.none)

pub returns-clause-answered : goal.returns-clause-answered
returns-clause-answered c =
    let s = c.args.self.now in
    let unbegun = subst (λ st. IsInStage st s) c.requires.stage c.requires.keeps.stage in
    let number = c.in-Some.number in
    let prog = c.in-Some.prog.0 in
    subst (λ st. Leads (list_at st s) (steps_text s.register.now.people s.kinds.now (number, prog, s.steps.items)) c.args.line.now) (sym c.requires.stage)
    (subst (λ z. Leads (list_at Head s) (steps_text s.register.now.people z (number, prog, s.steps.items)) c.args.line.now) (sym unbegun.steps)
    (subst (λ z. Leads (list_at Head s) (steps_text s.register.now.people step_kinds (number, prog, z)) c.args.line.now) (sym unbegun.none)
    (form-leads (head-form s.matrix.now s.register.now.people c.requires.keeps.known) c.args.line.now c.requires.line (number, prog) c.in-Some.ensures.may c.in-Some.ensures.some)))

pub returns-clause-keeps : goal.returns-clause-keeps
returns-clause-keeps c = λ _.
    let s = c.args.self.now in
    let unbegun = subst (λ st. IsInStage st s) c.requires.stage c.requires.keeps.stage in
    record { known = c.requires.keeps.known; used = c.requires.keeps.used; stage = unbegun.unread }

pub returns-clause-left : goal.returns-clause-left
returns-clause-left c = λ _.
    let s = c.args.self.now in
    let unbegun = subst (λ st. IsInStage st s) c.requires.stage c.requires.keeps.stage in
    let n = length s.register.now.people in
    subst (λ st. most_lines n s.kinds.now < left_at st n s.kinds.now) (sym c.requires.stage)
    (subst (λ z. most_lines n z < most_lines n step_kinds + 1) (sym unbegun.steps) (omega arith))
