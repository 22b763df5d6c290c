use Rattle.std.proofs.Common.{◌≡◌, ℕ, length, List, ◌++◌}
use Rattle.office_base.specs.Outside.{Appends}
use Rattle.office_base.proofs.whole.write_whole.Given as goal

-- a prefix of the piece is written, the rest is left, and the sink did not fail
abbrev pub invariant-loop-rest : goal.invariant-loop-rest
invariant-loop-rest g l =
    let written = g.K.Sink.written in
    let faults = g.K.Sink.faults in
    (done : List ℕ) × (l.piece ≡ done ++ l.rest) × Appends done (written l.fn.sink) (written l.sink) × (faults l.sink ≡ faults l.fn.sink)

abbrev pub decreases-loop-rest : goal.decreases-loop-rest
decreases-loop-rest g l = length l.rest
