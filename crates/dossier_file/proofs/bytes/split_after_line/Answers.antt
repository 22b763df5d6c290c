use Rattle.std.proofs.Common.{◌≡◌, ◌-◌, length, sym, ◌∙◌, refl}
use Rattle.std.proofs.lemmas.Bool.{false≢true}
use Rattle.std.proofs.lemmas.Bool.Decides.{Decides-eqb}
use Rattle.std.proofs.lemmas.Slice.Eq.{slice_eq-Decides}
use Rattle.dossier_file.proofs.EndLemmas.{split_met, passed_more}
use Rattle.dossier_file.proofs.bytes.split_after_line.Goals as goal

pub returns-then-eq : goal.returns-then-eq
returns-then-eq c =
    let same : c.in-Some.line.now ≡ c.args.ending.now = (slice_eq-Decides Decides-eqb _ _ _ c.eq.ensures).0 c.if-eq.true in
    split_met c.args.ending.now c.args.bytes.now c.lines.rest.now c.in-Some.line.now c.in-Some.later.now c.split_at.result.0.now c.split_at.result.1.now (length c.args.bytes.now - length c.in-Some.later.now)
    c.lines.invariant c.in-Some.ensures.some same refl c.split_at.ensures.front c.split_at.ensures.back

pub lines-preserved : goal.lines-preserved
lines-preserved c =
    passed_more c.args.ending.now c.args.bytes.now c.lines.rest.now c.in-Some.line.now c.in-Some.later.now c.lines.invariant c.in-Some.ensures.some c.in-Some.ensures.first
    (λ same. false≢true (sym c.if-eq.false ∙ (slice_eq-Decides Decides-eqb _ _ _ c.eq.ensures).1 same))
