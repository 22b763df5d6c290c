use Rattle.std.proofs.Common.{◌≡◌, ◌≢◌, ◌<◌, ◌+◌, ℕ, List, drop, length, ap, sym, ◌∙◌, arith}
use Rattle.std.proofs.lemmas.Bool.{false≢true}
use Rattle.std.proofs.lemmas.Bool.Decides.{Decides-eqb}
use Rattle.std.proofs.lemmas.List.{drop-drop, length-drop}
use Rattle.std.proofs.lemmas.Slice.Eq.{slice_eq-Decides}
use Rattle.season_file.specs.Bundle.{line_len, title}
use Rattle.text_readers.proofs.ReadLemmas.{no-bytes}
use Rattle.dossier_file.proofs.SplitLemmas.{begins_more, title_end, title_last, title_more}
use Rattle.dossier_file.proofs.DueLemmas.{long_of, some_bytes}
use Rattle.dossier_file.proofs.splitting.find_title.Goals as goal

pub returns-then-eq-clause-some : goal.returns-then-eq-clause-some
returns-then-eq-clause-some c =
    let text = c.args.text.now in
    let at = c.lines.at in
    let same : c.title.result.now ≡ c.args.name.now = (slice_eq-Decides Decides-eqb _ _ _ c.eq.ensures).0 c.if-eq.true in
    let held = long_of c.lines.rest.now (some_bytes c.lines.rest.now (sym c.is_empty.ensures ∙ c.lines-test.true)) in
    let long = length-drop at text in
    let rest = ap (λ (z : List ℕ). length z) c.lines.invariant.rest in
    record {
      within = omega (arith, held, long, rest);
      begins = c.lines.invariant.begins;
      titled = ap (λ (z : List ℕ). title z) (sym c.lines.invariant.rest) ∙ (sym c.title.ensures ∙ same);
      first = c.lines.invariant.none;
    }

pub returns-then-end-rest-clause-none : goal.returns-then-end-rest-clause-none
returns-then-end-rest-clause-none c =
    let text = c.args.text.now in
    let at = c.lines.at in
    let here : line_len (drop at text) ≡ c.line_len-end.result = ap (λ (z : List ℕ). line_len z) (sym c.lines.invariant.rest) ∙ sym c.line_len-end.ensures.value in
    let other : title (drop at text) ≢ c.args.name.now =
    λ same. false≢true (sym c.if-eq.false ∙ (slice_eq-Decides Decides-eqb _ _ _ c.eq.ensures).1 (c.title.ensures ∙ (ap (λ (z : List ℕ). title z) c.lines.invariant.rest ∙ same))) in
    title_last c.args.name.now text at c.line_len-end.result here c.lines.invariant.none other (c.if-end-rest.true ∙ ap (λ (z : List ℕ). length z) c.lines.invariant.rest) c.lines.invariant.within

pub lines-preserved : goal.lines-preserved
lines-preserved c =
    let text = c.args.text.now in
    let at = c.lines.at in
    let end = c.line_len-end.result in
    let here : line_len (drop at text) ≡ end = ap (λ (z : List ℕ). line_len z) (sym c.lines.invariant.rest) ∙ sym c.line_len-end.ensures.value in
    let other : title (drop at text) ≢ c.args.name.now =
    λ same. false≢true (sym c.if-eq.false ∙ (slice_eq-Decides Decides-eqb _ _ _ c.eq.ensures).1 (c.title.ensures ∙ (ap (λ (z : List ℕ). title z) c.lines.invariant.rest ∙ same))) in
    let rest = ap (λ (z : List ℕ). length z) c.lines.invariant.rest in
    let long = length-drop at text in
    let less : end < length (drop at text) = omega (arith, c.line_len-end.ensures.within, c.if-end-rest.false, rest) in
    record {
      rest = c.split_at.ensures.back ∙ (ap (λ (z : List ℕ). drop (end + 1) z) c.lines.invariant.rest ∙ drop-drop (end + 1) at text);
      within = omega (arith, less, long);
      begins = begins_more c.args.name.now text at end here less;
      none = title_more c.args.name.now text at end here c.lines.invariant.none other;
    }

pub returns-clause-none : goal.returns-clause-none
returns-clause-none c =
    title_end c.args.name.now c.args.text.now c.lines.at c.lines.invariant.none (sym c.lines.invariant.rest ∙ no-bytes c.lines.rest.now (sym c.is_empty.ensures ∙ c.lines-test.false))
