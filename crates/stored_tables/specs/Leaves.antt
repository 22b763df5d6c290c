-- What texts that make tables leave.
use Rattle.std.specs.Prelude.{◌≡◌, List, ◌++◌}
use Rattle.sqlite.specs.Table.{Table}
use Rattle.sqlite.specs.Change.{KeepsRows}
use Rattle.sqlite.specs.Effect.{Database}

-- The tables that were there are the first of those that are, and their rows stay.
pub record LeavesTables (old new : Database) : Type 0 where
  pub more : List Table
  pub tables : new.schema.tables ≡ old.schema.tables ++ more
  pub rows : KeepsRows old.schema.tables old.trees new.trees
