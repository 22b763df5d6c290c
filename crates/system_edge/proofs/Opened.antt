-- A keeper over a connection, with its tables made.
use Rattle.std.proofs.Common.{◌≡◌, ◌∙◌, ◌&&◌, inl, inr, Bool, false, true≢false, IsTrue, Option, Some, None, IfSome, arith, ap, subst, sym}
use Rattle.std.proofs.lemmas.Bool.{cases_Bool}
use Rattle.sqlite_trees.proofs.Doubt.{no_doubt}
use Rattle.sqlite.specs.Store.{Ghosts}
use Rattle.sqlite.specs.State.{State, HasCleanDisk}
use Rattle.sqlite.specs.Effect.{Database}
use Rattle.sqlite.specs.Held.{Held, IsNew, state}
use Rattle.sqlite.specs.Files.{file_state, image_of, over_files, AreFoundIn, Finds, IsOpened}
use Rattle.sqlite.specs.Start.{FindsIn}
use Rattle.sqlite_disk.specs.declared.Files.{Files}
use Rattle.sqlite_disk.specs.declared.Disk as disk
use Rattle.sqlite_wal.specs.Recovery.{Image}
use Rattle.sqlite_store.specs.declared.store.FileStore.{FileStore}
use Rattle.kept_rows.specs.Tables.{NoSeason, IsTold}
use Rattle.stored_tables.specs.Told.{told, told_if, tables_in, without_raises}
use Rattle.stored_tables.specs.Layout.{no_schema, first_four, has_tables as has_layout, stored}
use Rattle.keeper_sqlite.specs.Commits.{CommitsOnce}
use Rattle.keeper_sqlite.specs.Stored.{Stored}
use Rattle.system_edge.specs.Held.{AreHeld}
use Rattle.system_edge.specs.Hidden.{MayOpen}
use Rattle.system_edge.specs.Tables.{HasTables, HoldsFiles, IsOpenedOver, MakesTables}

-- no lie was taken before, if none was taken up to now
honest : (old new : State) → CommitsOnce old new → HasCleanDisk new → HasCleanDisk old
unfolding CommitsOnce
honest old new once clean =
    let falls = once.1.clean in
    omega (arith, falls, clean)

module _ {S : Type 0} {g : Ghosts S} where
  pub has_tables : (begun : Held S) (keeper : Stored S) → MakesTables g begun keeper.connection → keeper.faults ≡ 0
      → CommitsOnce (state g begun) (state g keeper.connection)
      → (HasCleanDisk (state g keeper.connection) → begun.schema ≡ no_schema → told (state g keeper.connection) ≡ NoSeason)
      → ((strict : Bool) → HasCleanDisk (state g keeper.connection) → begun.schema ≡ first_four strict
      → told (state g keeper.connection) ≡ tables_in (without_raises (state g begun).now.trees))
      → ((strict : Bool) → HasCleanDisk (state g keeper.connection) → begun.schema ≡ stored strict → told (state g keeper.connection) ≡ tables_in (state g begun).now.trees)
      → HasTables g begun keeper
  has_tables begun keeper made faults once fresh older whole =
      record { made = made; faults = faults; honest = λ clean. honest (state g begun) (state g keeper.connection) once clean; fresh = fresh; older = older; whole = whole }

module _ {S : Type 0} (g : Ghosts S) where
  -- visible tables are those of an open store
  told_open : (connection : Held S) → IsTold (told (state g connection)) → IsTrue (state g connection).is_open
  told_open connection it = elim (cases_Bool (state g connection).is_open) [
    | inl holds ↦ holds
    | inr fails ↦ absurd (subst (λ (b : Bool). IsTold (told_if (b && has_layout connection.schema) (tables_in (state g connection).now.trees))) fails it)
  ]

  -- and a store that is not clean is shut
  pub told_clean : (connection : Held S) → ((g.view connection.store).is_clean ≡ false → (g.view connection.store).is_open ≡ false)
      → IsTold (told (state g connection)) → HasCleanDisk (state g connection)
  told_clean connection shut it = elim (cases_Bool (g.view connection.store).is_clean) [
    | inl holds ↦ no_doubt (g.view connection.store).is_clean holds
    | inr fails ↦ absurd (true≢false (sym (told_open connection it) ∙ shut fails))
  ]

module _ {D : Type 0} {g : disk.Ghosts D} where
  -- what was opened over files that held this shows it
  pub opened_over : (files : Files D) (image : Image) (connection : Held (FileStore D g)) → image_of g files ≡ image
      → (HasCleanDisk (file_state connection) → IsOpened connection × Finds files connection)
      → (HasCleanDisk (file_state connection) → MayOpen (g.seen files.log) (g.seen files.db)) → IsOpenedOver image connection
  opened_over files image connection same opened sound clean =
      let (is_open, found) = opened clean in
      record {
        opened = is_open;
        found = subst (λ (i : Image). FindsIn i (file_state connection)) same (record { holds = found.holds; reads = found.reads });
        sound = subst (λ (i : Image). MayOpen i.log i.db) same (sound clean);
      }

  -- a keeper over a connection that shows what two files held
  pub holds_files : (image : Image) (begun : Held (FileStore D g)) (made : Stored (FileStore D g)) → IsNew begun → IsOpenedOver image begun → made ≡ record { connection = begun; faults = 0 }
      → (result : Option (Stored (FileStore D g))) → IfSome result (HasTables over_files made.connection) → IfSome result (HoldsFiles image)
  holds_files image begun made new opened is None none = none
  holds_files image begun made new opened is (Some keeper) tables =
      record { begun = begun; is_new = new; opened = opened; tables = subst (λ (it : Stored (FileStore D g)). HasTables over_files it.connection keeper) is tables }

  -- what such a keeper shows is what the two files held
  pub held : (image : Image) (keeper : Stored (FileStore D g)) → HoldsFiles image keeper → HasCleanDisk (file_state keeper.connection)
      → AreHeld image (told (file_state keeper.connection))
  held image keeper it clean =
      let shown = it.opened (it.tables.honest clean) in
      let (opens, lives) = shown.opened in
      record {
        database = (file_state it.begun).now;
        sound = (lives opens.is_open).0;
        found = subst (λ (db : Database). AreFoundIn image db.trees) (sym opens.clean) shown.found.reads;
        only = λ trees holds. ap (λ (db : Database). db.trees) opens.clean ∙ shown.found.holds trees holds;
        fresh = it.tables.fresh clean;
        older = λ strict. it.tables.older strict clean;
        whole = λ strict. it.tables.whole strict clean;
      }
