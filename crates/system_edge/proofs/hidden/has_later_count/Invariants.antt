use Rattle.std.proofs.Common.{◌-◌, ◌≡◌, ◌+◌, ◌<◌, ◌≤◌, ℕ, length}
use Rattle.sqlite_wal.specs.Reads.{IsClean, OnlyReads}
use Rattle.sqlite_wal.specs.Recovery.{frame_at}
use Rattle.system_edge.specs.Hidden.{EndsCommit}
use Rattle.system_edge.proofs.hidden.has_later_count.Given as goal

abbrev pub invariant-loop-at : goal.invariant-loop-at
invariant-loop-at g l =
    OnlyReads g.D.Disk l.fn.log l.log
    × (l.at ≡ frame_at l.page_size l.last) × (l.last ≤ l.at) × (l.taken ≤ l.last) × (length l.frame ≡ 24 + l.page_size)
    × (IsClean g.D.Disk l.log → (i : ℕ) → l.taken ≤ i → i < l.last → ¬ EndsCommit l.page_size (g.D.Disk.seen l.fn.log) i)

abbrev pub decreases-loop-at : goal.decreases-loop-at
decreases-loop-at g l = l.len - l.at
