-- Which tables of a store are visible.
use Rattle.std.specs.Prelude.{◌==◌, ◌&&◌, true, false, Bool, ℕ, List, [], ◌∷◌, if◌then◌else◌, Option, Some, None}
use Rattle.sqlite.specs.Order.{Row}
use Rattle.sqlite.specs.Tree.{Trees}
use Rattle.sqlite.specs.State.{State}
use Rattle.kept_rows.specs.declared.rows.AnswerRow.{AnswerRow}
use Rattle.kept_rows.specs.declared.rows.AllotRow.{AllotRow}
use Rattle.kept_rows.specs.declared.rows.RaiseRow.{RaiseRow}
use Rattle.kept_rows.specs.Tables.{Tables, Untold, NoSeason, Records}
use Rattle.stored_tables.specs.Layout.{has_tables}
use Rattle.stored_tables.specs.Rows.{cuts_of, text_in, answers_in, raises_in, allots_in}

abbrev pub is_bare : List Row → Bool
is_bare [] = true
is_bare (row ∷ rows) = false

-- no row is in the four tables other than the phase
abbrev pub are_bare : Trees → Bool
are_bare db = is_bare (db 0) && (is_bare (db 1) && (is_bare (db 3) && is_bare (db 6)))

-- the records of a season after this many cuts, if each table represents its own records; otherwise hidden tables
abbrev pub records_of : ℕ → Option (List ℕ) → Option (List AnswerRow) → Option (List RaiseRow) → Option (List AllotRow) → Tables
records_of n (Some text) (Some answers) (Some raises) (Some allots) = Records (record { season = text; answers = answers; raises = raises; allots = allots; cuts = n })
records_of n (Some text) (Some answers) (Some raises) None = Untold
records_of n (Some text) (Some answers) None allots = Untold
records_of n (Some text) None raises allots = Untold
records_of n None answers raises allots = Untold

-- with a phase that says this
abbrev pub tables_with : Option (Option ℕ) → Trees → Tables
tables_with None db = Untold
tables_with (Some None) db = if are_bare db then NoSeason else Untold
tables_with (Some (Some n)) db = records_of n (text_in db) (answers_in db) (raises_in db) (allots_in db)

-- The tables that are in these trees: 0 the text, 1 the answers, 3 the published seats, 5 the phase, 6 the raises.
-- No statement of a keeper writes the catalog, so what a crash leaves of these trees is opened with the same tables.
abbrev pub tables_in : Trees → Tables
tables_in db = tables_with (cuts_of (db 5)) db

-- the same trees, where the one of the raises has no row
abbrev pub without_raises : Trees → Trees
without_raises db t = if t == 6 then [] else db t

-- these tables if the test holds, otherwise hidden tables
abbrev pub told_if : Bool → Tables → Tables
told_if true tables = tables
told_if false tables = Untold

-- The tables of a store are visible if the store is open and has the five tables alone. A store that is not clean is shut.
abbrev pub told : State → Tables
told s = told_if (s.is_open && has_tables s.now.schema) (tables_in s.now.trees)
