use Rattle.std.proofs.Common.{◌≡◌, ◌+◌, drop}
use Rattle.allocations.specs.Market.{place_of}
use Rattle.cut_arrays.proofs.seeking.place_of.Given as goal

abbrev pub invariant-loop-place : goal.invariant-loop-place
invariant-loop-place l = l.place + place_of (drop l.place l.list) l.prog.0 ≡ place_of l.list l.prog.0
