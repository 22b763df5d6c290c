use Rattle.std.proofs.Common.{◌≡◌, ◌<◌, ◌≤◌, ℕ, get_or, subst, ⊎_elim, arith}
use Rattle.std.proofs.lemmas.Bool.{cases_lt}
use Rattle.slot_cert.proofs.bounds.least.Goals as goal

pub loop-bound-preserved : goal.loop-bound-preserved
loop-bound-preserved c =
    let bounds = c.args.bounds.now in
    let i = c.loop-bound.bound-index in
    let met = c.loop-bound.invariant.met in
    record {
      below = λ n l. ⊎_elim
          (λ (e : n < i). omega (arith, c.loop-bound.invariant.below n e))
          (λ (e : i ≤ n).
          let same : i ≡ n = omega arith in
          let le : c.min-least.result ≤ get_or bounds i 0 = omega arith in
          subst (λ (k : ℕ). c.min-least.result ≤ get_or bounds k 0) same le)
          (cases_lt n i);
      met = ⊎_elim
          (λ (e : get_or bounds i 0 < c.loop-bound.least). (i, c.loop-bound-test.true, omega arith))
          (λ (e : c.loop-bound.least ≤ get_or bounds i 0). (met.0, met.1, omega (arith, met.2)))
          (cases_lt (get_or bounds i 0) c.loop-bound.least);
    }
