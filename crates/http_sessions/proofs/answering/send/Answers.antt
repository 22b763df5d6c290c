use Rattle.std.proofs.Common.{◌≡◌, ◌<◌, ◌+◌, ◌++◌, ℕ, List, [], Option, Some, None, Result, Ok, Err, length, take, arith, refl, sym, ap, subst, ◌∙◌, length-append}
use Rattle.std.specs.Prelude.{OnErr}
use Rattle.std.specs.Option.{unwrap_or}
use Rattle.office_base.specs.Outside.{Appends}
use Rattle.http_sessions.proofs.Talking.{appends_on}
use Rattle.http_sessions.proofs.Ending.{take-append-add}
use Rattle.http_sessions.proofs.answering.send.Goals as goal

on_err : {A E : Type 0} (r : Result A E) (P Q : Type 0) → (P → Q) → OnErr r P → OnErr r Q
on_err (Ok x) P Q f p = tt
on_err (Err x) P Q f p = f p

-- the first text was written whole, and of the second a prefix
in_part : (first held second piece : List ℕ) (body : Option (List ℕ)) (before mid after : Option (List ℕ)) → held ≡ first → body ≡ Some second → piece ≡ second → Appends held before mid
    → (n : ℕ) × (n < length piece) × Appends (take n piece) mid after → (m : ℕ) × (m < length (first ++ unwrap_or body [])) × Appends (take m (first ++ unwrap_or body [])) before after
in_part first held second piece body before mid after h b p whole part =
    let n = part.0 in
    let short = part.1 in
    let all : first ++ unwrap_or body [] ≡ held ++ piece = ap (λ (x : List ℕ). x ++ unwrap_or body []) (sym h) ∙ ap (λ (x : List ℕ). held ++ x) (ap (λ (o : Option (List ℕ)). unwrap_or o []) b ∙ sym p) in (
      length held + n,
      (let e = ap length all in omega (arith, e, short, length-append held piece)),
      subst (λ (x : List ℕ). Appends (take (length held + n) x) before after) (sym all)
          (subst (λ (x : List ℕ). Appends x before after) (sym (take-append-add held piece n)) (appends_on held (take n piece) before mid after whole part.2)),
    )

pub returns-in-Some-clause-err : goal.returns-in-Some-clause-err
returns-in-Some-clause-err g c = on_err c.write_link-in-Some.result _ _
    (in_part _ _ _ _ _ _ _ _ c.bytes.ensures c.in-Some.is c.as_slice.ensures c.in_ok-write_link.ensures.ok) c.write_link-in-Some.ensures.err
