use Rattle.std.proofs.Common.{◌<◌, ◌+◌, ◌∙◌, ℕ, List, length, ap, sym, arith}
use Rattle.season_file.specs.Bundle.{breaks}
use Rattle.season_file.proofs.BundleLines.{breaks-end, breaks-step}
use Rattle.season_file.proofs.splitting.breaks.Goals as goal

pub returns-then-end-rest-clause-value : goal.returns-then-end-rest-clause-value
returns-then-end-rest-clause-value c =
    let end = breaks-end c.lines.rest.now c.line_len-end.result c.line_len-end.ensures.value c.if-end-rest.true in
    omega (arith, c.lines.invariant.value, end)

pub lines-preserved : goal.lines-preserved
lines-preserved c =
    let less : c.line_len-end.result < length c.lines.rest.now = omega (arith, c.line_len-end.ensures.within, c.if-end-rest.false) in
    let step = breaks-step c.lines.rest.now c.line_len-end.result c.line_len-end.ensures.value less
    ∙ ap (λ (l : List ℕ). 1 + breaks l) (sym c.split_at.ensures.back) in
    record {
      value = omega (arith, c.lines.invariant.value, step);
      within = omega (arith, c.lines.invariant.within, c.split_at.ensures.back_len, less);
    }
