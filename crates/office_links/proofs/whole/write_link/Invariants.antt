use Rattle.std.proofs.Common.{◌≡◌, ℕ, length, List, ◌++◌}
use Rattle.office_base.specs.Outside.{Appends}
use Rattle.office_links.proofs.whole.write_link.Given as goal

-- a prefix of the piece is written, the rest is left, what is left to read is unchanged, and the link did not fail
abbrev pub invariant-loop-rest : goal.invariant-loop-rest
invariant-loop-rest g l =
    let written = g.L.Link.written in
    let left = g.L.Link.left in
    let faults = g.L.Link.faults in
    (done : List ℕ) × (l.piece ≡ done ++ l.rest) × Appends done (written l.fn.link) (written l.link) × (faults l.link ≡ faults l.fn.link) × (left l.link ≡ left l.fn.link)

abbrev pub decreases-loop-rest : goal.decreases-loop-rest
decreases-loop-rest g l = length l.rest
