-- A keeper whose tables are made, over a connection that shows what two files held.
use Rattle.std.specs.Prelude.{◌≡◌, Bool}
use Rattle.sqlite.specs.Store.{Ghosts}
use Rattle.sqlite.specs.Held.{Held, IsNew, state}
use Rattle.sqlite.specs.State.{HasCleanDisk}
use Rattle.sqlite.specs.Files.{file_state, over_files, IsOpened}
use Rattle.sqlite.specs.Start.{FindsIn}
use Rattle.sqlite_wal.specs.Recovery.{Image}
use Rattle.sqlite_disk.specs.declared.Disk as disk
use Rattle.sqlite_store.specs.declared.store.FileStore.{FileStore}
use Rattle.kept_rows.specs.Tables.{NoSeason}
use Rattle.stored_tables.specs.Told.{told, tables_in, without_raises}
use Rattle.stored_tables.specs.Layout.{no_schema, first_four, stored}
use Rattle.keeper_sqlite.specs.Kept.{DidAll, Keeps, plain_calls, table_texts}
use Rattle.keeper_sqlite.specs.Stored.{Stored}
use Rattle.system_edge.specs.Hidden.{MayOpen}

module _ {S : Type 0} (g : Ghosts S) where
  -- the texts of the tables were run over this connection and committed, and nothing else was done
  abbrev pub MakesTables : Held S → Held S → Type 0
  MakesTables begun connection = HasCleanDisk (state g connection) → Keeps g (DidAll g (plain_calls table_texts)) begun connection

  -- The keeper has not failed, its tables were made over this connection, and it shows what the connection showed before.
  pub record HasTables (begun : Held S) (keeper : Stored S) : Type 0 where
    pub made : MakesTables begun keeper.connection
    pub faults : keeper.faults ≡ 0
    -- the disk returned what was written, also before the tables were made
    pub honest : HasCleanDisk (state g keeper.connection) → HasCleanDisk (state g begun)
    -- a database without tables shows no season
    pub fresh : HasCleanDisk (state g keeper.connection) → begun.schema ≡ no_schema → told (state g keeper.connection) ≡ NoSeason
    -- one without the table of raises shows what it kept, and no raises
    pub older : (strict : Bool) → HasCleanDisk (state g keeper.connection) → begun.schema ≡ first_four strict
        → told (state g keeper.connection) ≡ tables_in (without_raises (state g begun).now.trees)
    -- one with all five tables shows what it kept
    pub whole : (strict : Bool) → HasCleanDisk (state g keeper.connection) → begun.schema ≡ stored strict
        → told (state g keeper.connection) ≡ tables_in (state g begun).now.trees

module _ {D : Type 0} {g : disk.Ghosts D} where
  -- The connection is open and shows the database that these two files stood for. A database may open them: the head of their log was sound and the log hid no commit, or they held nothing.
  pub record ShowsFiles (image : Image) (connection : Held (FileStore D g)) : Type 0 where
    pub opened : IsOpened connection
    pub found : FindsIn image (file_state connection)
    pub sound : MayOpen image.log image.db

  -- so it is if the disk returned what was written
  abbrev pub IsOpenedOver : Image → Held (FileStore D g) → Type 0
  IsOpenedOver image connection = HasCleanDisk (file_state connection) → ShowsFiles image connection

  -- The tables of the keeper were made over a new connection, which showed what these two files held.
  pub record HoldsFiles (image : Image) (keeper : Stored (FileStore D g)) : Type 0 where
    pub begun : Held (FileStore D g)
    pub is_new : IsNew begun
    pub opened : IsOpenedOver image begun
    pub tables : HasTables over_files begun keeper
