-- The lines of the faults that are not of what was read.
use Rattle.std.specs.Prelude.{ℕ, List, codes}

-- the line of a source that failed
abbrev pub read_line : List ℕ
read_line = codes "fault: read\n"

-- the line that reports that memory ran out
abbrev pub memory_line : List ℕ
memory_line = codes "fault: memory\n"
