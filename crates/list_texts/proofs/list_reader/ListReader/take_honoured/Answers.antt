use Rattle.std.proofs.Common.{◌≡◌, ◌≤◌, ◌++◌, [], ◌∷◌, length, sym, ap, subst, ◌∙◌, arith}
use Rattle.text_readers.specs.Reading.{IsRefused, Leads}
use Rattle.list_texts.specs.ListLines.{honoured_text, rows_text, step_list, steps_text}
use Rattle.list_texts.specs.ListReader.{IsInStage, after_step, free_in, list_at, said_by}
use Rattle.list_texts.proofs.FollowLemmas.{slots-few}
use Rattle.list_texts.proofs.FreeLemmas.{free-all}
use Rattle.list_texts.proofs.LineThen.{form-leads, form-refused}
use Rattle.list_texts.proofs.StageLines.{honoured-form}
use Rattle.list_texts.proofs.list_reader.ListReader.take_honoured.Goals as goal

pub returns-in_default-clause-answered : goal.returns-in_default-clause-answered
returns-in_default-clause-answered c =
    let s = c.args.self.now in
    let step = c.args.step in
    let rows = c.args.rows in
    let kept = subst (λ st. IsInStage st s) c.requires.stage c.requires.keeps.stage in
    subst (λ st. IsRefused (list_at st s) c.args.line.now) (sym c.requires.stage)
    (form-refused (honoured-form s.matrix.now s.register.now.people c.requires.keeps.known (said_by s) s.kinds.now step rows kept.1) c.args.line.now c.requires.line
    (λ slots may. c.in_default.ensures.none slots (subst (λ n. slots ≤ n) (sym c.slots_within.ensures) may)))

pub returns-then-rows-gt0-clause-answered : goal.returns-then-rows-gt0-clause-answered
returns-then-rows-gt0-clause-answered c =
    let s = c.args.self.now in
    let step = c.args.step in
    let rows = c.args.rows in
    let kept = subst (λ st. IsInStage st s) c.requires.stage c.requires.keeps.stage in
    let after = after_step s step in
    let slots = c.in-Some.slots in
    subst (λ st. Leads (list_at st s) (rows_text s.register.now.people after rows slots s.admitted s.pairs) c.args.line.now) (sym c.requires.stage)
    (subst (λ z. Leads (honoured_text s.register.now.people after step.kind rows) (rows_text s.register.now.people after rows slots z s.pairs) c.args.line.now) (sym kept.0.people)
    (subst (λ z. Leads (honoured_text s.register.now.people after step.kind rows) (rows_text s.register.now.people after rows slots [] z) c.args.line.now) (sym kept.0.slots)
    (form-leads (honoured-form s.matrix.now s.register.now.people c.requires.keeps.known (said_by s) s.kinds.now step rows kept.1) c.args.line.now c.requires.line slots
    (subst (λ n. slots ≤ n) c.slots_within.ensures c.in-Some.ensures.may) c.in-Some.ensures.some)))

pub returns-then-rows-gt0-clause-keeps : goal.returns-then-rows-gt0-clause-keeps
returns-then-rows-gt0-clause-keeps c = λ _.
    let s = c.args.self.now in
    let step = c.args.step in
    let rows = c.args.rows in
    let kept = subst (λ st. IsInStage st s) c.requires.stage c.requires.keeps.stage in
    let n = s.register.now.people in
    let all : free_in n s.admitted ≡ length n = ap (free_in n) kept.0.people ∙ free-all n in
    record {
      known = c.requires.keeps.known;
      used = c.requires.keeps.used;
      stage = record {
        some = c.if-rows-gt0.true;
        few = omega (arith, kept.1, all);
        enough = slots-few step.kind rows c.in-Some.slots (subst (λ n. c.in-Some.slots ≤ n) c.slots_within.ensures c.in-Some.ensures.may);
      };
    }

pub returns-clause-answered : goal.returns-clause-answered
returns-clause-answered c =
    let s = c.args.self.now in
    let step = c.args.step in
    let rows = c.args.rows in
    let kept = subst (λ st. IsInStage st s) c.requires.stage c.requires.keeps.stage in
    let after = after_step s step in
    let slots = c.in-Some.slots in
    let none : rows ≡ 0 = omega (arith, c.if-rows-gt0.false) in
    let list = step_list step.kind step.seats step.candidates [] [] in
    let made : c.push.new.self.items ≡ s.steps.items ++ list ∷ [] =
    c.in_ok-push.ensures.items ∙ ap (λ z. s.steps.items ++ step_list step.kind step.seats step.candidates z c.new-2.result ∷ []) c.new.ensures ∙ ap (λ z. s.steps.items ++ step_list step.kind step.seats step.candidates [] z ∷ []) c.new-2.ensures in
    let led = form-leads (honoured-form s.matrix.now s.register.now.people c.requires.keeps.known (said_by s) s.kinds.now step rows kept.1) c.args.line.now c.requires.line slots
    (subst (λ n. slots ≤ n) c.slots_within.ensures c.in-Some.ensures.may) c.in-Some.ensures.some in
    subst (λ st. Leads (list_at st s) (steps_text s.register.now.people s.kinds.now (s.number, s.prog.0, c.push.new.self.items)) c.args.line.now) (sym c.requires.stage)
    (subst (λ z. Leads (honoured_text s.register.now.people after step.kind rows) (steps_text s.register.now.people s.kinds.now (s.number, s.prog.0, z)) c.args.line.now) (sym made)
    (subst (λ n. Leads (honoured_text s.register.now.people after step.kind rows) (rows_text s.register.now.people after n slots [] []) c.args.line.now) none led))
