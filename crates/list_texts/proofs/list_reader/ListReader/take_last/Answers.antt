use Rattle.std.proofs.Common.{◌≡◌, ◌<◌, length, sym, subst, ◌∙◌, arith}
use Rattle.std.proofs.lemmas.Bool.{false≢true}
use Rattle.std.proofs.lemmas.Bool.Decides.{Decides-eqb}
use Rattle.std.proofs.lemmas.Slice.Eq.{slice_eq-Decides}
use Rattle.text_readers.specs.Reading.{IsRefused, Leads}
use Rattle.list_texts.specs.ListLines.{IsListEnd, last_words, steps_text}
use Rattle.list_texts.specs.ListReader.{left_at, list_at, most_lines, said_by}
use Rattle.list_texts.proofs.LineThen.{form-leads, form-refused}
use Rattle.list_texts.proofs.StageLines.{last-form}
use Rattle.list_texts.proofs.list_reader.ListReader.take_last.Goals as goal

pub returns-then-eq-clause-answered : goal.returns-then-eq-clause-answered
returns-then-eq-clause-answered c =
    let s = c.args.self.now in
    let same : c.args.line.now ≡ last_words tt = (slice_eq-Decides Decides-eqb _ _ _ c.eq.ensures).0 c.if-eq.true ∙ c.as_slice.ensures in
    subst (λ st. Leads (list_at st s) (IsListEnd (said_by s)) c.args.line.now) (sym c.requires.stage)
    (subst (λ z. Leads (steps_text s.register.now.people z (said_by s)) (IsListEnd (said_by s)) c.args.line.now) (sym c.requires.kinds)
    (form-leads (last-form s.matrix.now s.register.now.people c.requires.keeps.known (said_by s)) c.args.line.now c.requires.line tt tt same))

pub returns-else-eq-clause-answered : goal.returns-else-eq-clause-answered
returns-else-eq-clause-answered c =
    let s = c.args.self.now in
    let other : c.args.line.now ≡ last_words tt → ⊥ = λ same. false≢true (sym c.if-eq.false ∙ (slice_eq-Decides Decides-eqb _ _ _ c.eq.ensures).1 (same ∙ sym c.as_slice.ensures)) in
    subst (λ st. IsRefused (list_at st s) c.args.line.now) (sym c.requires.stage)
    (subst (λ z. IsRefused (steps_text s.register.now.people z (said_by s)) c.args.line.now) (sym c.requires.kinds)
    (form-refused (last-form s.matrix.now s.register.now.people c.requires.keeps.known (said_by s)) c.args.line.now c.requires.line (λ _ may. other)))

pub returns-then-eq-clause-left : goal.returns-then-eq-clause-left
returns-then-eq-clause-left c = λ _.
    let s = c.args.self.now in
    let n = length s.register.now.people in
    subst (λ st. 1 < left_at st n s.kinds.now) (sym c.requires.stage) (subst (λ z. 1 < most_lines n z) (sym c.requires.kinds) (omega arith))
