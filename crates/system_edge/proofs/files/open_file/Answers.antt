use Rattle.std.proofs.Common.{ℕ, Bool, cond, List, ap₂}
use Rattle.sqlite_disk.specs.Events.{Event, replay}
use Rattle.sqlite_wal.specs.Recovery.{Image}
use Rattle.sqlite_wal.specs.Files.{image_at}
use Rattle.system_edge.proofs.Opened.{opened_over}
use Rattle.system_edge.proofs.files.open_file.Goals as goal

abbrev image : List ℕ → List ℕ → Image
image log db = record { log = log; db = db }

-- what a file shows after these calls, by what the two held
abbrev seen : List ℕ → List ℕ → Bool → List Event → List ℕ
seen log db is_log history = (replay (cond is_log log db) history).seen

pub returns-in-Ok-clause-opened : goal.returns-in-Ok-clause-opened
returns-in-Ok-clause-opened g c =
    let (log, db) = c.in_ok-files.ensures.fresh in
    let shown = seen g.S.Start.log g.S.Start.db in
    opened_over c.in_ok-files.files (image_at g.S.Start) c.in-Ok.connection (ap₂ image (ap₂ shown log.0 log.1) (ap₂ shown db.0 db.1)) c.in-Ok.ensures.opened c.in-Ok.ensures.sound
