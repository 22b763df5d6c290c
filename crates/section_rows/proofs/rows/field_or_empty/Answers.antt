use Rattle.std.proofs.Common.{sym}
use Rattle.section_rows.proofs.RowsLemmas.{field_at-field, field_at-none}
use Rattle.section_rows.proofs.rows.field_or_empty.Goals as goal

pub returns-in-Some : goal.returns-in-Some
returns-in-Some c = sym (field_at-field _ _ _ (sym c.in-Some.ensures.value))

pub returns-in-None : goal.returns-in-None
returns-in-None c = sym (field_at-none _ _ (sym c.in-None.ensures.value))
