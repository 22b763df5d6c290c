use Rattle.std.proofs.Common.{◌≡◌, ◌≤◌, ◌<◌, ◌-◌, [], length, sym, ◌∙◌, arith}
use Rattle.csv.specs.Records.{fields_of}
use Rattle.section_rows.specs.Rows.{field}
use Rattle.section_rows.proofs.RowsLemmas.{empty_test, used-less, used-all}
use Rattle.section_rows.proofs.rows.used_fields.Goals as goal

pub loop-count-preserved : goal.loop-count-preserved
loop-count-preserved c =
    let some : 0 < c.loop-count.count = omega arith in
    let within : c.loop-count.count ≤ length (fields_of c.args.raw.now) = omega arith in
    let empty : field (fields_of c.args.raw.now) (c.loop-count.count - 1) ≡ [] = sym c.field_or_empty.ensures ∙ (empty_test c.field_or_empty.result.now).0 (sym c.if-is_empty.ensures) in
    (omega arith, c.loop-count.invariant.1 ∙ used-less (fields_of c.args.raw.now) c.loop-count.count some within empty)

pub returns-else-is_empty-clause-used : goal.returns-else-is_empty-clause-used
returns-else-is_empty-clause-used c =
    let some : 0 < c.loop-count.count = omega arith in
    let within : c.loop-count.count ≤ length (fields_of c.args.raw.now) = omega arith in
    sym (c.loop-count.invariant.1
    ∙ used-all (fields_of c.args.raw.now) c.loop-count.count some within (λ h. absurd (cc (c.if-is_empty.ensures, (empty_test c.field_or_empty.result.now).1 (c.field_or_empty.ensures ∙ h)))))
