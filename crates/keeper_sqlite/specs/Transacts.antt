-- What one transaction of a keeper does to its database.
use Rattle.std.specs.Prelude.{◌≡◌, IsTrue, Result, IfErr, OnOk, OnErr}
use Rattle.sqlite.specs.Store.{Ghosts}
use Rattle.sqlite.specs.State.{HasCleanDisk}
use Rattle.sqlite.specs.Held.{Held, state}
use Rattle.keeper_mem.specs.declared.keeper.KeepFault.{KeepFault}
use Rattle.stored_tables.specs.Told.{told}
use Rattle.keeper_sqlite.specs.Commits.{CommitsOnce}
use Rattle.keeper_sqlite.specs.Kept.{Keeps}
use Rattle.keeper_sqlite.specs.Stops.{FailsBy, Loses}
use Rattle.keeper_sqlite.specs.declared.halt.Halt.{Halt}

module _ {S : Type 0} (g : Ghosts S) where
  -- One transaction that makes a change, or breaks off for a cause.
  pub record Transacts (Makes : Held S → Held S → Type 0) (Breaks : Halt → Held S → Held S → Type 0) (old new : Held S) {X : Type 0} (result : Result X KeepFault) : Type 0 where
    -- it commits at most once
    pub once : CommitsOnce (state g old) (state g new)
    -- after a fault the database holds what it held
    pub stays_err : HasCleanDisk (state g new) → IsTrue (state g new).is_open → OnErr result (told (state g new) ≡ told (state g old))
    -- if it succeeds, the change is committed
    pub kept : HasCleanDisk (state g new) → OnOk result (Keeps g Makes old new)
    -- if it fails, one cause broke the change off
    pub lost : HasCleanDisk (state g new) → IfErr result (FailsBy (λ halt. Loses g Breaks Makes halt old new))
