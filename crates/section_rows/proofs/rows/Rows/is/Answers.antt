use Rattle.std.proofs.Common.{map, arith}
use Rattle.std.proofs.lemmas.List.{length-map}
use Rattle.section_rows.proofs.RowsLemmas.{same_fields-length}
use Rattle.section_rows.proofs.rows.Rows.is.Goals as goal

pub returns-then-len-names : goal.returns-then-len-names
returns-then-len-names c = same_fields-length c.args.self.now.row (map (λ name. name.now) c.args.names.now) (λ e. absurd (omega (arith, e, length-map c.args.names.now (λ name. name.now))))
