-- What several writes, one after another, do to the visible bytes.
use Rattle.std.proofs.Common.{◌≡◌, ℕ, List, ◌++◌, Option, take, length, ◌<◌, refl, sym, ap, ◌∙◌, subst, arith, length-append}
use Rattle.std.proofs.lemmas.List.{take_at}
use Rattle.office_base.specs.Outside.{Appends}

-- what was written is a prefix of the piece and not all of it, also after a call that wrote nothing
pub written_prefix : (piece done rest : List ℕ) (before mid after : Option (List ℕ)) → piece ≡ done ++ rest → 0 < length rest → Appends done before mid → after ≡ mid → (n : ℕ) × (n < length piece) × Appends (take n piece) before after
written_prefix piece done rest before mid after e some a k = (
  length done,
  omega (arith, ap length e, length-append done rest),
  subst (λ (x : List ℕ). Appends x before after) (sym (ap (λ (x : List ℕ). take (length done) x) e ∙ take_at done rest (length done) refl)) (subst (λ (m : Option (List ℕ)). Appends done before m) (sym k) a),
)
