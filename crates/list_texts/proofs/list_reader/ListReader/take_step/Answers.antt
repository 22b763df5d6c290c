use Rattle.std.proofs.Common.{◌<◌, ◌≤◌, ◌+◌, length, sym, subst, arith}
use Rattle.text_readers.specs.Reading.{IsRefused, Leads}
use Rattle.list_texts.specs.ListLines.{IsStepHead, after_rows, honoured_text, steps_text}
use Rattle.list_texts.specs.ListReader.{IsInStage, left_at, list_at, most_lines, said_by}
use Rattle.list_texts.proofs.LineThen.{form-leads, form-refused}
use Rattle.list_texts.proofs.StageLines.{open_step, step-form}
use Rattle.list_texts.proofs.list_reader.ListReader.take_step.Goals as goal

pub returns-in_default-step_head-clause-answered : goal.returns-in_default-step_head-clause-answered
returns-in_default-step_head-clause-answered c =
    let s = c.args.self.now in
    let kind = c.in-Some.kind in
    let later = c.in-Some.later.now in
    subst (λ st. IsRefused (list_at st s) c.args.line.now) (sym c.requires.stage)
    (subst (λ z. IsRefused (steps_text s.register.now.people z (said_by s)) c.args.line.now) (sym c.in-Some.ensures.some)
    (form-refused (step-form s.matrix.now s.register.now.people c.requires.keeps.known (said_by s) kind later) c.args.line.now c.requires.line
    (λ part may. c.in_default-step_head.ensures.none part (subst (λ n. IsStepHead n part) (sym c.count_people.ensures) may))))

pub returns-clause-answered : goal.returns-clause-answered
returns-clause-answered c =
    let s = c.args.self.now in
    let kind = c.in-Some.kind in
    let later = c.in-Some.later.now in
    let head = c.in-Some-step_head.head in
    let next = honoured_text s.register.now.people (after_rows s.register.now.people later (said_by s) (open_step kind (head.seats, head.candidates, head.admitted))) kind head.admitted in
    subst (λ st. Leads (list_at st s) next c.args.line.now) (sym c.requires.stage)
    (subst (λ z. Leads (steps_text s.register.now.people z (said_by s)) next c.args.line.now) (sym c.in-Some.ensures.some)
    (form-leads (step-form s.matrix.now s.register.now.people c.requires.keeps.known (said_by s) kind later) c.args.line.now c.requires.line (head.seats, head.candidates, head.admitted)
    (subst (λ n. IsStepHead n (head.seats, head.candidates, head.admitted)) c.count_people.ensures c.in-Some-step_head.ensures.may) c.in-Some-step_head.ensures.some))

pub returns-clause-keeps : goal.returns-clause-keeps
returns-clause-keeps c = λ _.
    let s = c.args.self.now in
    let unread = subst (λ st. IsInStage st s) c.requires.stage c.requires.keeps.stage in
    record {
      known = c.requires.keeps.known;
      used = c.requires.keeps.used;
      stage = (unread, omega (arith, c.in-Some-step_head.ensures.may.2, c.count_people.ensures));
    }

pub returns-clause-left : goal.returns-clause-left
returns-clause-left c = λ _.
    let s = c.args.self.now in
    let n = length s.register.now.people in
    let later = c.in-Some.later.now in
    let few : c.in-Some-step_head.head.admitted ≤ n = omega (arith, c.in-Some-step_head.ensures.may.2, c.count_people.ensures) in
    subst (λ st. most_lines n later + c.in-Some-step_head.head.admitted + 1 < left_at st n s.kinds.now) (sym c.requires.stage)
    (subst (λ z. most_lines n later + c.in-Some-step_head.head.admitted + 1 < most_lines n z) (sym c.in-Some.ensures.some) (omega (arith, few)))
