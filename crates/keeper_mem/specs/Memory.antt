-- The keepers in memory, as contracts see them.
use Rattle.std.specs.Prelude.{true}
use Rattle.keeper_mem.specs.Keeper.{KeeperView}
use Rattle.std.specs.Prelude.{ℕ, List, Option, Some, None}
use Rattle.kept_rows.specs.declared.rows.AnswerRow.{AnswerRow}
use Rattle.kept_rows.specs.declared.rows.AllotRow.{AllotRow}
use Rattle.kept_rows.specs.declared.rows.RaiseRow.{RaiseRow}
use Rattle.kept_rows.specs.Tables.{Tables, NoSeason, Records}

-- the tables, and how many answers can be put without allocating
pub record Memory : Type 0 where
  pub tables : Tables
  pub spare : ℕ

-- the tables of a season's text, or none, and its rows
abbrev pub tables_of : Option (List ℕ) → List AnswerRow → List RaiseRow → List AllotRow → ℕ → Tables
tables_of None answers raises allots cuts = NoSeason
tables_of (Some text) answers raises allots cuts = Records (record { season = text; answers = answers; raises = raises; allots = allots; cuts = cuts })

-- a keeper of which some calls fail: its memory, the calls so far, those that fail, and the faults
pub record FailingMemory : Type 0 where
  pub memory : Memory
  pub calls : ℕ
  pub fail_at : List ℕ
  pub faults : ℕ

-- a keeper of these tables before its first call, without room in advance
abbrev pub fresh_keeper : Tables → List ℕ → FailingMemory
fresh_keeper tables fail_at = record { memory = record { tables = tables; spare = 0 }; calls = 0; fail_at = fail_at; faults = 0 }

-- the keeper as it is seen
abbrev pub keeper_view_of : FailingMemory → KeeperView
keeper_view_of k = record { tables = k.memory.tables; kept = k.memory.tables; settled = true; faults = k.faults; holds_room = true; spare = k.memory.spare }
