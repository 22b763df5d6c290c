use Rattle.std.proofs.Common.{◌≡◌, ◌+◌, ℕ, List, ap, sym, ◌∙◌, arith}
use Rattle.text_readers.specs.Reading.{lines_in}
use Rattle.dossier_file.proofs.DueLemmas.{some_bytes}
use Rattle.dossier_file.proofs.LineLemmas.{line_more, one_line}
use Rattle.dossier_file.proofs.bytes.line_count.Goals as goal

pub lines-preserved : goal.lines-preserved
lines-preserved c =
    let step : lines_in c.lines.rest.now ≡ 1 + lines_in c.in-Some.later.now =
    ap (λ (z : List ℕ). lines_in z) c.in-Some.ensures.some ∙ line_more c.in-Some.field-0-0.now c.in-Some.later.now c.in-Some.ensures.first in
    record {
      value = omega (arith, c.lines.invariant.value, step);
      within = omega (arith, c.lines.invariant.within, c.in-Some.ensures.shorter);
    }

pub returns-else-is_empty-clause-value : goal.returns-else-is_empty-clause-value
returns-else-is_empty-clause-value c =
    let some = some_bytes c.lines.rest.now (sym c.is_empty.ensures ∙ c.if-is_empty.false) in
    let one = one_line c.lines.rest.now c.in_default.ensures.none some in
    omega (arith, c.lines.invariant.value, one)
