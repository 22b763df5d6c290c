use Rattle.std.proofs.Common.{◌≡◌, ℕ, List, take}
use Rattle.std.specs.List.{AllZip, concat}
use Rattle.keeper_sqlite.specs.Columns.{IsPartRow}
use Rattle.keeper_sqlite.proofs.season.text_of.Given as goal

abbrev pub invariant-loop-row : goal.invariant-loop-row
invariant-loop-row l = (parts : List (List ℕ)) × AllZip IsPartRow (take l.row-index l.rows) parts × (concat parts ≡ l.text)
