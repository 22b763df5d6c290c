-- The records that two files hold.
use Rattle.std.specs.Prelude.{◌≡◌, Bool}
use Rattle.sqlite.specs.Effect.{Database, IsDatabase}
use Rattle.sqlite.specs.Files.{AreFoundIn, HoldsDatabase}
use Rattle.sqlite.specs.Tree.{Trees}
use Rattle.sqlite_wal.specs.Recovery.{Image}
use Rattle.kept_rows.specs.Tables.{NoSeason, Tables}
use Rattle.stored_tables.specs.Told.{tables_in, without_raises}
use Rattle.stored_tables.specs.Layout.{no_schema, first_four, stored}

-- These are the records of the database that a file and its log stand for, whatever the two hold.
pub record AreHeld (image : Image) (tables : Tables) : Type 0 where
  pub database : Database
  pub sound : IsDatabase database
  -- its rows are what the two files recover to, or the files are empty and so is the database
  pub found : AreFoundIn image database.trees
  -- if the files hold a database, it is this one
  pub only : (trees : Trees) → HoldsDatabase image trees → database.trees ≡ trees
  -- a database without tables has no season
  pub fresh : database.schema ≡ no_schema → tables ≡ NoSeason
  -- one without the table of raises has no raises
  pub older : (strict : Bool) → database.schema ≡ first_four strict → tables ≡ tables_in (without_raises database.trees)
  -- of one with all five tables the records are its rows
  pub whole : (strict : Bool) → database.schema ≡ stored strict → tables ≡ tables_in database.trees
