use Rattle.std.proofs.Common.{◌≡◌, ◌-◌, ◌++◌, [], ◌∷◌, suc, sym, ap, subst, ◌∙◌, arith}
use Rattle.std.specs.BTreeSet.{contains}
use Rattle.std.specs.Ordering.{nat_cmp}
use Rattle.text_readers.specs.Reading.{IsRefused, Leads}
use Rattle.list_texts.specs.ListLines.{rows_text, slots_in, step_list, steps_text}
use Rattle.list_texts.specs.ListReader.{IsInStage, after_step, free_in, list_at, said_by}
use Rattle.list_texts.specs.Listing.{is_listed, pair_of}
use Rattle.list_texts.proofs.FreeLemmas.{free-less, put-listed}
use Rattle.list_texts.proofs.LineThen.{form-leads, form-refused}
use Rattle.list_texts.proofs.StageLines.{entry-form}
use Rattle.list_texts.proofs.list_reader.ListReader.take_row.Goals as goal

pub returns-in_default-clause-answered : goal.returns-in_default-clause-answered
returns-in_default-clause-answered c =
    let s = c.args.self.now in
    let step = c.args.step in
    let rows = c.args.rows in
    let slots = c.args.slots in
    let kept = subst (λ st. IsInStage st s) c.requires.stage c.requires.keeps.stage in
    let after = after_step s step in
    let left = rows - 1 in
    let more : suc left ≡ rows = omega (arith, kept.some) in
    subst (λ st. IsRefused (list_at st s) c.args.line.now) (sym c.requires.stage)
    (subst (λ n. IsRefused (rows_text s.register.now.people after n slots s.admitted s.pairs) c.args.line.now) more
    (form-refused (entry-form s.matrix.now s.register.now.people c.requires.keeps.known (said_by s) s.kinds.now step left slots s.admitted s.pairs (omega (arith, kept.few, more))) c.args.line.now c.requires.line
    (c.in_default.ensures.none s.admitted c.requires.keeps.used)))

pub returns-then-left-gt0-clause-answered : goal.returns-then-left-gt0-clause-answered
returns-then-left-gt0-clause-answered c =
    let s = c.args.self.now in
    let step = c.args.step in
    let rows = c.args.rows in
    let slots = c.args.slots in
    let kept = subst (λ st. IsInStage st s) c.requires.stage c.requires.keeps.stage in
    let after = after_step s step in
    let left = rows - 1 in
    let more : suc left ≡ rows = omega (arith, kept.some) in
    let person = c.in-Some.person in
    let slot = c.in-Some.slot in
    let led = form-leads (entry-form s.matrix.now s.register.now.people c.requires.keeps.known (said_by s) s.kinds.now step left slots s.admitted s.pairs (omega (arith, kept.few, more))) c.args.line.now c.requires.line
    (person, slot) (c.in-Some.ensures.may s.admitted c.requires.keeps.used) c.in-Some.ensures.some in
    subst (λ st. Leads (list_at st s) (rows_text s.register.now.people after left c.slots_after.result c.push.new.self c.put_pair.new.pairs) c.args.line.now) (sym c.requires.stage)
    (subst (λ z. Leads (rows_text s.register.now.people after rows slots s.admitted s.pairs) (rows_text s.register.now.people after left z c.push.new.self c.put_pair.new.pairs) c.args.line.now) (sym c.slots_after.ensures)
    (subst (λ z. Leads (rows_text s.register.now.people after rows slots s.admitted s.pairs) (rows_text s.register.now.people after left (slots - slots_in slot) z c.put_pair.new.pairs) c.args.line.now) (sym c.in_ok-push.ensures.ok)
    (subst (λ z. Leads (rows_text s.register.now.people after rows slots s.admitted s.pairs) (rows_text s.register.now.people after left (slots - slots_in slot) (s.admitted ++ person ∷ []) z) c.args.line.now) (sym c.in_ok-put_pair.ensures)
    (subst (λ n. Leads (rows_text s.register.now.people after n slots s.admitted s.pairs) (rows_text s.register.now.people after left (slots - slots_in slot) (s.admitted ++ person ∷ []) (s.pairs ++ pair_of person slot)) c.args.line.now) more led))))

pub returns-then-left-gt0-clause-keeps : goal.returns-then-left-gt0-clause-keeps
returns-then-left-gt0-clause-keeps c = λ _.
    let s = c.args.self.now in
    let step = c.args.step in
    let rows = c.args.rows in
    let slots = c.args.slots in
    let kept = subst (λ st. IsInStage st s) c.requires.stage c.requires.keeps.stage in
    let person = c.in-Some.person in
    let may = c.in-Some.ensures.may s.admitted c.requires.keeps.used in
    let less = free-less s.register.now.people s.admitted person c.requires.keeps.known.rising may.is.known may.is.new in
    let all : free_in s.register.now.people c.push.new.self ≡ free_in s.register.now.people (s.admitted ++ person ∷ []) = ap (free_in s.register.now.people) c.in_ok-push.ensures.ok in
    record {
      known = c.requires.keeps.known;
      used = λ id.
          subst (λ z. contains nat_cmp c.insert.new.self id ≡ is_listed id z) (sym c.in_ok-push.ensures.ok)
          (put-listed s.admitted person id (contains nat_cmp s.used id) (contains nat_cmp c.insert.new.self id) (c.requires.keeps.used id) (c.in_ok-insert.ensures.updates.0 id));
      stage = record {
        some = c.if-left-gt0.true;
        few = omega (arith, kept.few, less, all);
        enough = omega (arith, may.enough, c.slots_after.ensures);
      };
    }

pub returns-clause-answered : goal.returns-clause-answered
returns-clause-answered c =
    let s = c.args.self.now in
    let step = c.args.step in
    let rows = c.args.rows in
    let slots = c.args.slots in
    let kept = subst (λ st. IsInStage st s) c.requires.stage c.requires.keeps.stage in
    let after = after_step s step in
    let left = rows - 1 in
    let more : suc left ≡ rows = omega (arith, kept.some) in
    let none : left ≡ 0 = omega (arith, c.if-left-gt0.false) in
    let person = c.in-Some.person in
    let slot = c.in-Some.slot in
    let admitted = s.admitted ++ person ∷ [] in
    let pairs = s.pairs ++ pair_of person slot in
    let led = form-leads (entry-form s.matrix.now s.register.now.people c.requires.keeps.known (said_by s) s.kinds.now step left slots s.admitted s.pairs (omega (arith, kept.few, more))) c.args.line.now c.requires.line
    (person, slot) (c.in-Some.ensures.may s.admitted c.requires.keeps.used) c.in-Some.ensures.some in
    let made : c.push-2.new.self.items ≡ s.steps.items ++ step_list step.kind step.seats step.candidates admitted pairs ∷ [] =
    c.in_ok-push-2.ensures.items ∙ ap (λ z. s.steps.items ++ step_list step.kind step.seats step.candidates z c.replace-2.result ∷ []) (c.replace.ensures.value ∙ c.in_ok-push.ensures.ok)
    ∙ ap (λ z. s.steps.items ++ step_list step.kind step.seats step.candidates admitted z ∷ []) (c.replace-2.ensures.value ∙ c.in_ok-put_pair.ensures) in
    subst (λ st. Leads (list_at st s) (steps_text s.register.now.people s.kinds.now (s.number, s.prog.0, c.push-2.new.self.items)) c.args.line.now) (sym c.requires.stage)
    (subst (λ z. Leads (rows_text s.register.now.people after rows slots s.admitted s.pairs) (steps_text s.register.now.people s.kinds.now (s.number, s.prog.0, z)) c.args.line.now) (sym made)
    (subst (λ n. Leads (rows_text s.register.now.people after n slots s.admitted s.pairs) (after admitted pairs) c.args.line.now) more
    (subst (λ n. Leads (rows_text s.register.now.people after (suc left) slots s.admitted s.pairs) (rows_text s.register.now.people after n (slots - slots_in slot) admitted pairs) c.args.line.now) none led)))
