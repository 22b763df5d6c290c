use Rattle.apply_engine.proofs.Keeping.{KeptTo}
use Rattle.apply_engine.proofs.seating.keep_seats.Given as goal

abbrev pub invariant-loop-at : goal.invariant-loop-at
invariant-loop-at l = KeptTo l.lists l.guaranteed l.next l.fn.seats l.seats l.at
