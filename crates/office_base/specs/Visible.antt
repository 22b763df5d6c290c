-- What a proof sees of a source and of a sink at one moment.
use Rattle.std.specs.Prelude.{ℕ, List, Option}
use Rattle.office_base.specs.declared.outside.Source.{Ghosts as SourceGhosts}
use Rattle.office_base.specs.declared.outside.Sink.{Ghosts as SinkGhosts}

-- a source: the bytes left, if they are visible, and how often it has failed
pub record Readable : Type 0 where
  pub left : Option (List ℕ)
  pub faults : ℕ

-- a sink: the bytes written, if they are visible, and how often it has failed
pub record Writable : Type 0 where
  pub written : Option (List ℕ)
  pub faults : ℕ

-- the source as it is now
abbrev pub source_of : {S : Type 0} → SourceGhosts S → S → Readable
source_of s source = record { left = s.left source; faults = s.faults source }

-- the sink as it is now
abbrev pub sink_of : {K : Type 0} → SinkGhosts K → K → Writable
sink_of k sink = record { written = k.written sink; faults = k.faults sink }

-- the source and the sink of a command
pub record Streams : Type 0 where
  pub source : Readable
  pub sink : Writable

-- both as they are now
abbrev pub streams_of : {S K : Type 0} → SourceGhosts S → SinkGhosts K → S → K → Streams
streams_of s k source sink = record { source = source_of s source; sink = sink_of k sink }
