use Rattle.std.proofs.Common.{◌≡◌, List, map}
use Rattle.std.specs.Map.Iter.{deref_pair}
use Rattle.seat_matrix.specs.Builder.{Keeps}
use Rattle.seat_matrix.specs.Matrix.{seatings_in}
use Rattle.seat_matrix.specs.declared.entry.Entry.{Entry}
use Rattle.seat_matrix.proofs.builder.MatrixBuilder.all_seatings.Given as goal

abbrev pub invariant-loop-code : goal.invariant-loop-code
invariant-loop-code l = (entries : List Entry) → Keeps entries l.self → l.steps.items ≡ map (λ held. seatings_in entries held.0) (map deref_pair l.yielded)
