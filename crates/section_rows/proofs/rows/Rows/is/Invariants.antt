use Rattle.std.proofs.Common.{◌≡◌, drop, map}
use Rattle.section_rows.specs.Rows.{same_fields}
use Rattle.section_rows.proofs.rows.Rows.is.Given as goal

abbrev pub invariant-fields : goal.invariant-fields
invariant-fields l = same_fields (drop l.at l.self.row) (map (λ name. name.now) (drop l.at l.names)) ≡ same_fields l.self.row (map (λ name. name.now) l.names)
