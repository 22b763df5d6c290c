-- What many rows that are put together make of the tables.
use Rattle.std.specs.Prelude.{List, [], ◌∷◌}
use Rattle.kept_rows.specs.Tables.{Tables, with_answer, with_raise}
use Rattle.keeper_mem.specs.declared.batch.Put.{Put}
use Rattle.keeper_mem.specs.declared.batch.Put.TheVariants.{Answer, Raise}

-- the row is put after the answers, or after the raises
abbrev pub with_put : Put → Tables → Tables
with_put (Answer row) tables = with_answer row tables
with_put (Raise row) tables = with_raise row tables

-- the rows are put one after another, in their order
abbrev pub with_all : List Put → Tables → Tables
with_all [] tables = tables
with_all (row ∷ rows) tables = with_all rows (with_put row tables)
