use Rattle.std.proofs.Common.{◌≡◌, ◌<◌, ◌+◌, ◌∙◌, ℕ, List, true, false, length, ap, sym, arith}
use Rattle.season_file.specs.Bundle.{body_len}
use Rattle.season_file.specs.Titles.{begins_title}
use Rattle.season_file.proofs.BundleLines.{body_len-end, body_len-step}
use Rattle.season_file.proofs.splitting.body_len.Goals as goal

pub returns-then-end-rest-clause-value : goal.returns-then-end-rest-clause-value
returns-then-end-rest-clause-value c =
    let other : begins_title c.lines.rest.now ≡ false = sym c.begins_title.ensures ∙ c.lines-test.true in
    let end = body_len-end c.lines.rest.now c.line_len-end.result other c.line_len-end.ensures.value c.if-end-rest.true in
    omega (arith, c.lines.invariant.value, end)

pub lines-preserved : goal.lines-preserved
lines-preserved c =
    let other : begins_title c.lines.rest.now ≡ false = sym c.begins_title.ensures ∙ c.lines-test.true in
    let less : c.line_len-end.result < length c.lines.rest.now = omega (arith, c.line_len-end.ensures.within, c.if-end-rest.false) in
    let step = body_len-step c.lines.rest.now c.line_len-end.result other c.line_len-end.ensures.value less
    ∙ ap (λ (l : List ℕ). (c.line_len-end.result + 1) + body_len true l) (sym c.split_at.ensures.back) in
    record {
      value = omega (arith, c.lines.invariant.value, step, c.split_at.ensures.front_len);
      whole = omega (arith, c.lines.invariant.whole, c.split_at.ensures.front_len, c.split_at.ensures.back_len);
    }
