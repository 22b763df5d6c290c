-- The words of the program, run over the store that they name.
use Rattle.std.specs.Prelude.{◌≡◌, List, [], Option, Some, None, ℕ, map}
use Rattle.sqlite_disk.specs.declared.Disk as disk
use Rattle.sqlite_store.specs.declared.store.FileStore.{FileStore}
use Rattle.sqlite_wal.specs.Recovery.{Image}
use Rattle.office_base.specs.Visible.{Streams, Readable, Writable, streams_of}
use Rattle.office_base.specs.declared.outside.Source.{Ghosts as SourceGhosts}
use Rattle.office_base.specs.declared.outside.Sink.{Ghosts as SinkGhosts}
use Rattle.office_links.specs.declared.outside.Door.{Ghosts as DoorGhosts}
use Rattle.office_links.specs.declared.outside.Link.{Ghosts as LinkGhosts}
use Rattle.kept_rows.specs.Tables.{NoSeason, IsTold}
use Rattle.keeper_mem.specs.declared.keeper.Keeper.{Ghosts as KeeperGhosts}
use Rattle.keeper_mem.specs.declared.batch.Put.{Put}
use Rattle.keeper_sqlite.specs.Stored.{Stored}
use Rattle.pending_keeper.specs.Pending.{PendingView, pending_seen}
use Rattle.command_answers.specs.declared.status.Status.{Status}
use Rattle.command_words.specs.declared.words.Service.{Service}
use Rattle.office_commands.specs.Call.{Call, call_of}
use Rattle.office_commands.specs.Keeping.{RunsWords}
use Rattle.office_commands.specs.Named.{doors_named}
use Rattle.system_edge.specs.Held.{AreHeld}
use Rattle.system_edge.specs.Tables.{HoldsFiles}

-- the streams as a run found them, and as it left them
pub record StreamsUsed : Type 0 where
  pub before : Streams
  pub after : Streams

-- the same, by a source and a sink before and after
abbrev pub used : {S K : Type 0} → SourceGhosts S → SinkGhosts K → S → S → K → K → StreamsUsed
used s k source source' sink sink' = record { before = streams_of s k source sink; after = streams_of s k source' sink' }

-- what is seen of a source and of a sink
abbrev pub seen_source : SourceGhosts Readable
seen_source = record { left = λ source. source.left; faults = λ source. source.faults }

abbrev pub seen_sink : SinkGhosts Writable
seen_sink = record { written = λ sink. sink.written; faults = λ sink. sink.faults }

module _ {P D L : Type 0} (p : KeeperGhosts P) (d : DoorGhosts D L) (l : LinkGhosts L) where
  -- a call with these streams, with a keeper and doors before and after
  abbrev pub call_at : StreamsUsed → P → P → List D → List D → Call
  call_at streams keeper keeper' doors doors' =
      call_of seen_source seen_sink p d l streams.before.source streams.after.source streams.before.sink streams.after.sink keeper keeper' doors doors'

  -- The words were run over the first keeper, which became the second, at doors with as many connections to come as the
  -- service of the words names.
  pub record RunsAt (words : List (List ℕ)) (service : Option Service) (streams : StreamsUsed) (keeper keeper' : P) (status : Status) : Type 0 where
    pub doors : List D
    pub doors' : List D
    pub named : map d.to_come doors ≡ doors_named service
    pub runs : RunsWords words (call_at streams keeper keeper' doors doors') status

  -- The words were run over a new keeper in memory. It never fails, and its tables are visible to the end.
  pub record RunsInMemory (words : List (List ℕ)) (service : Option Service) (streams : StreamsUsed) (status : Status) : Type 0 where
    pub keeper : P
    pub keeper' : P
    pub fresh : (p.seen keeper).tables ≡ NoSeason
    pub told : IsTold (p.seen keeper').tables
    pub steady : (p.seen keeper').faults ≡ 0
    pub runs : RunsAt words service streams keeper keeper' status

-- what is seen of a keeper in which rows wait, by what is seen of the one below it
abbrev pub waiting_over : {P : Type 0} → KeeperGhosts P → KeeperGhosts (PendingView P)
waiting_over p = record { seen = pending_seen p.seen }

module _ {P D L : Type 0} (p : KeeperGhosts P) (d : DoorGhosts D L) (l : LinkGhosts L) where
  -- The words were run over a keeper in which rows wait, above the first one, which became the second. None waited at the beginning.
  pub record RunsWaiting (words : List (List ℕ)) (service : Option Service) (streams : StreamsUsed) (keeper keeper' : P) (status : Status) : Type 0 where
    pub left : List Put
    pub runs : RunsAt (waiting_over p) d l words service streams (record { keeper = keeper; rows = [] }) (record { keeper = keeper'; rows = left }) status

  -- Under a service rows wait, so that one sync keeps those of many; otherwise each is kept at once.
  abbrev pub RunsOver : Option Service → List (List ℕ) → StreamsUsed → P → P → Status → Type 0
  RunsOver None words streams keeper keeper' status = RunsAt p d l words None streams keeper keeper' status
  RunsOver (Some service) words streams keeper keeper' status = RunsWaiting words (Some service) streams keeper keeper' status

-- The words were run over a keeper that was opened over two files, which held this.
-- The records that it showed at the beginning, if it showed any, are those that the files held.
pub record RunsOverFiles {F D L : Type 0} {g : disk.Ghosts F} (p : KeeperGhosts (Stored (FileStore F g))) (d : DoorGhosts D L) (l : LinkGhosts L) (image : Image)
    (words : List (List ℕ)) (service : Option Service) (streams : StreamsUsed) (status : Status) : Type 0 where
  pub keeper : Stored (FileStore F g)
  pub keeper' : Stored (FileStore F g)
  pub holds : HoldsFiles image keeper
  pub records : IsTold (p.seen keeper).tables → AreHeld image (p.seen keeper).tables
  pub runs : RunsOver p d l service words streams keeper keeper' status
