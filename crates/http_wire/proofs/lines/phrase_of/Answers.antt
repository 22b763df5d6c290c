use Rattle.std.proofs.Common.{◌≡◌, ◌≤◌, ℕ, List, length, refl, sym, ap, ◌∙◌, subst, Bor}
use Rattle.http_wire.specs.Statuses.{phrase}
use Rattle.http_wire.proofs.Phrases.{short_phrase, phrase_or}
use Rattle.http_wire.proofs.lines.phrase_of.Goals as goal

pub returns : goal.returns
returns c =
    let found = ap (λ (s : Bor (List ℕ)). s.now) c.unwrap_or.ensures in
    let text : c.unwrap_or.result.now ≡ phrase c.args.code = found ∙ phrase_or _ _ _ c.canonical_reason.ensures.value refl in
    record { text = text; short = subst (λ (x : List ℕ). length x ≤ 31) (sym text) (short_phrase _ c.requires.1) }
