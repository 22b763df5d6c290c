use Rattle.std.proofs.Common.{◌≡◌, ◌++◌, drop}
use Rattle.seeks.specs.Seek.{left_from, seek_leaves}
use Rattle.seeks.proofs.seek.push_each.Given as goal

-- with what is left of the rest it is all that is left
abbrev pub invariant-loop-place : goal.invariant-loop-place
invariant-loop-place l = l.out.items ++ left_from l.matrix l.seek l.list l.place (drop l.place l.list) ≡ l.fn.out.items ++ seek_leaves l.matrix l.seek l.list
