-- The published seats that are visible.
use Rattle.std.specs.Prelude.{◌≡◌, true}
use Rattle.sqlite.specs.Tree.{Trees}
use Rattle.kept_rows.specs.declared.rows.Kept.{Kept}
use Rattle.kept_rows.specs.Tables.{Records}
use Rattle.stored_tables.specs.Rising.{are_rising}
use Rattle.stored_tables.specs.Told.{tables_in}

-- If records are visible, their seats rise by round and candidate, in the order in which they were put.
abbrev pub SeatsRiseLaw : Type 0
SeatsRiseLaw = (db : Trees) (kept : Kept) → tables_in db ≡ Records kept → are_rising kept.allots ≡ true
