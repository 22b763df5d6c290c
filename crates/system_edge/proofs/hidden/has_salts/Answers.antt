use Rattle.std.proofs.lemmas.Slice.Eq.{bytes_eq-Decides}
use Rattle.sqlite_wal.specs.Format.{part}
use Rattle.system_edge.proofs.hidden.has_salts.Goals as goal

pub returns : goal.returns
unfolding part
returns c = rw c.eq.ensures (bytes_eq-Decides _ _)
