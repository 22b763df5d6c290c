use Rattle.std.proofs.Common.{◌≡◌, sym, subst, ◌∙◌}
use Rattle.std.proofs.lemmas.Bool.{false≢true}
use Rattle.std.proofs.lemmas.Bool.Decides.{Decides-eqb}
use Rattle.std.proofs.lemmas.Slice.Eq.{slice_eq-Decides}
use Rattle.text_readers.specs.Reading.{IsRefused, Leads}
use Rattle.publish.specs.Reader.{grammar_at}
use Rattle.publish.specs.Rows.{IsEnd, IsRest, ending}
use Rattle.publish.proofs.RowsLemmas.{end-leads, end-refused}
use Rattle.publish.proofs.rows.RowsReader.take_last.Goals as goal

pub returns-then-eq-clause-answered : goal.returns-then-eq-clause-answered
returns-then-eq-clause-answered c =
    let same = (slice_eq-Decides Decides-eqb _ _ _ c.eq.ensures).0 c.if-eq.true ∙ c.last_line.ensures in
    let s = c.args.self.now in
    subst (λ st. Leads (grammar_at st s) (IsEnd s.number s.rows) c.args.line.now) (sym c.requires.stage)
    (subst (λ n. Leads (IsRest s.sort s.matrix.now s.people.now s.number n s.rows) (IsEnd s.number s.rows) c.args.line.now) (sym c.requires.left)
    (end-leads s.sort s.matrix.now s.people.now s.number s.rows c.requires.keeps.spelled c.requires.keeps.small c.args.line.now same))

pub returns-else-eq-clause-answered : goal.returns-else-eq-clause-answered
returns-else-eq-clause-answered c =
    let s = c.args.self.now in
    let other : c.args.line.now ≡ ending s.sort → ⊥ = λ same. false≢true (sym c.if-eq.false ∙ (slice_eq-Decides Decides-eqb _ _ _ c.eq.ensures).1 (same ∙ sym c.last_line.ensures)) in
    subst (λ st. IsRefused (grammar_at st s) c.args.line.now) (sym c.requires.stage)
    (subst (λ n. IsRefused (IsRest s.sort s.matrix.now s.people.now s.number n s.rows) c.args.line.now) (sym c.requires.left)
    (end-refused s.sort s.matrix.now s.people.now s.number s.rows c.requires.keeps.spelled c.requires.keeps.small c.args.line.now c.requires.line other))
