-- What an open over two files leaves of them.
use Rattle.sqlite_disk.specs.declared.Disk.{Ghosts}
use Rattle.sqlite_disk.specs.declared.Files.{Files}
use Rattle.sqlite_wal.specs.Reads.{IsClean, OnlyReads}
use Rattle.system_edge.specs.Hidden.{MayOpen}
use Rattle.system_edge.specs.declared.stores.Unopened.{Unopened}
use Rattle.system_edge.specs.declared.stores.Unopened.TheVariants.{Log, Database}

-- the log and the database file that are left
abbrev pub files_left : {D : Type 0} → Unopened D → D × D
files_left (Log files) = (files.log, files.db)
files_left (Database files) = (files.log, files.db)

module _ {D : Type 0} (g : Ghosts D) where
  -- The files were only read.
  abbrev pub AreOnlyRead : Files D → Files D → Type 0
  AreOnlyRead old new = OnlyReads g old.log new.log × OnlyReads g old.db new.db

  -- The files were read. A database may open them, if the disk returned what they hold.
  abbrev pub ReadsSoundFiles : Files D → Type 0
  ReadsSoundFiles files = (read : Files D) × AreOnlyRead files read × (IsClean g read.log → IsClean g read.db → MayOpen (g.seen files.log) (g.seen files.db))

  -- A damaged log leaves both files as they were. The database refuses only files that it may open.
  abbrev pub IsRefused : Files D → Unopened D → Type 0
  IsRefused files (Log left) = AreOnlyRead files left
  IsRefused files (Database left) = ReadsSoundFiles files
