-- A keeper with rows that wait.
use Rattle.std.specs.Prelude.{◌≡◌, Bool, true, false, List, [], ◌∷◌}
use Rattle.keeper_mem.specs.Batch.{with_all}
use Rattle.keeper_mem.specs.Keeper.{KeeperView}
use Rattle.keeper_mem.specs.declared.batch.Put.{Put}
use Rattle.kept_rows.specs.Tables.{IsFound}

-- the keeper below, and the rows that wait, in the order in which they were put
pub record PendingView (K : Type 0) : Type 0 where
  pub keeper : K
  pub rows : List Put

-- no row waits
abbrev pub none_wait : List Put → Bool
none_wait [] = true
none_wait (row ∷ rows) = false

module _ {K : Type 0} (seen : K → KeeperView) where
  -- The tables are those of the keeper below with the rows that wait, and a crash leaves those of the keeper below.
  abbrev pub pending_seen : PendingView K → KeeperView
  pending_seen pending =
      let below = seen pending.keeper in
      record { tables = with_all pending.rows below.tables; kept = below.kept; settled = none_wait pending.rows; faults = below.faults; holds_room = false; spare = 0 }

  -- rows wait only for a season that is kept
  abbrev pub HasSeasonForAll : PendingView K → Type 0
  HasSeasonForAll pending = none_wait pending.rows ≡ false → IsFound true (seen pending.keeper).tables
