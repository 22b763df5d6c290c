use Rattle.std.proofs.Common.{◌≡◌, drop}
use Rattle.seeks.specs.Seek.{left_from, seek_leaves, is_listed}
use Rattle.seeks.proofs.seek.is_sought.Given as goal

-- the programme is left where the rest leaves it
abbrev pub invariant-loop-place : goal.invariant-loop-place
invariant-loop-place l = is_listed l.prog.0 (left_from l.matrix l.seek l.list l.place (drop l.place l.list)) ≡ is_listed l.prog.0 (seek_leaves l.matrix l.seek l.list)
