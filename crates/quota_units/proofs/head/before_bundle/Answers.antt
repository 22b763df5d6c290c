use Rattle.std.proofs.Common.{◌≡◌, ◌<◌, ◌+◌, ◌∙◌, ℕ, List, true, false, length, ap, sym, arith}
use Rattle.quota_units.specs.Input.{before_bundle}
use Rattle.quota_units.proofs.HeadLemmas.{before-end, before-step, begins}
use Rattle.quota_units.proofs.head.before_bundle.Goals as goal

pub returns-then-end-rest-clause-value : goal.returns-then-end-rest-clause-value
returns-then-end-rest-clause-value c =
    let other : begins c.lines.rest.now ≡ false = sym c.begins_bundle.ensures ∙ c.lines-test.true in
    let end = before-end c.lines.rest.now c.line_len-end.result other c.line_len-end.ensures.value c.if-end-rest.true in
    omega (arith, c.lines.invariant.value, end)

pub lines-preserved : goal.lines-preserved
lines-preserved c =
    let other : begins c.lines.rest.now ≡ false = sym c.begins_bundle.ensures ∙ c.lines-test.true in
    let less : c.line_len-end.result < length c.lines.rest.now = omega (arith, c.line_len-end.ensures.within, c.if-end-rest.false) in
    let step = before-step c.lines.rest.now c.line_len-end.result other c.line_len-end.ensures.value less
    ∙ ap (λ (l : List ℕ). (c.line_len-end.result + 1) + before_bundle true l) (sym c.split_at.ensures.back) in
    record {
      value = omega (arith, c.lines.invariant.value, step, c.split_at.ensures.front_len);
      whole = omega (arith, c.lines.invariant.whole, c.split_at.ensures.front_len, c.split_at.ensures.back_len);
    }
