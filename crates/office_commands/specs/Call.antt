-- The outside of the program, as a call finds it and leaves it.
use Rattle.std.specs.Prelude.{◌≡◌, ℕ, List, Option, map}
use Rattle.std.specs.List.{AllByRecursion}
use Rattle.office_base.specs.declared.outside.Source.{Ghosts as SourceGhosts}
use Rattle.office_base.specs.declared.outside.Sink.{Ghosts as SinkGhosts}
use Rattle.office_links.specs.declared.outside.Door.{Ghosts as DoorGhosts}
use Rattle.office_links.specs.declared.outside.Link.{Ghosts as LinkGhosts}
use Rattle.kept_rows.specs.Tables.{Tables, still}
use Rattle.keeper_mem.specs.declared.keeper.Keeper.{Ghosts as KeeperGhosts}
use Rattle.door_crews.specs.Ending.{SomeRose}
use Rattle.door_crews.specs.Served.{telling}
use Rattle.office_commands.specs.Doors.{Doors, doors_seen}
use Rattle.office_commands.specs.Blames.{Counts}

-- A call: what it found of the outside, and what it left.
pub record Call : Type 1 where
  -- the bytes that the source had left, and has; the bytes written before, and after
  pub left : Option (List ℕ)
  pub still_left : Option (List ℕ)
  pub written : Option (List ℕ)
  pub now_written : Option (List ℕ)
  -- the tables of the keeper before and after, and that the keeper is returned unchanged
  pub tables : Tables
  pub now_tables : Tables
  pub same_keeper : Type 0
  -- what became of the doors, and that no connection is still to come at them
  pub doors : Doors
  pub all_came : Type 0
  -- how many connections were still to come at each door before, and after
  pub coming : List ℕ
  pub still_coming : List ℕ
  -- how often each object had failed, and has
  pub counts : Counts
  pub now_counts : Counts
  pub door_failed : Type 0

-- a call, by the source, the sink, the keeper and the doors before and after
abbrev pub call_of : {S K P D L : Type 0} → SourceGhosts S → SinkGhosts K → KeeperGhosts P → DoorGhosts D L → LinkGhosts L → S → S → K → K → P → P → List D → List D → Call
call_of s k p d l source source' sink sink' keeper keeper' doors doors' = record {
  left = s.left source;
  still_left = s.left source';
  written = k.written sink;
  now_written = k.written sink';
  tables = (p.seen keeper).tables;
  now_tables = (p.seen keeper').tables;
  same_keeper = keeper' ≡ keeper;
  doors = doors_seen d l p.seen keeper keeper' doors doors';
  all_came = AllByRecursion (λ door. d.to_come door ≡ 0) doors';
  coming = map d.to_come doors;
  still_coming = map d.to_come doors';
  counts = record { source = s.faults source; sink = k.faults sink; keeper = (p.seen keeper).faults; doors = map d.faults doors };
  now_counts = record { source = s.faults source'; sink = k.faults sink'; keeper = (p.seen keeper').faults; doors = map d.faults doors' };
  door_failed = SomeRose d.faults doors doors';
}
