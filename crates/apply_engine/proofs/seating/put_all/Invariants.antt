use Rattle.apply_engine.specs.Made.{AreGiven}
use Rattle.apply_engine.proofs.seating.put_all.Given as goal

abbrev pub invariant-loop-prog : goal.invariant-loop-prog
invariant-loop-prog l = AreGiven l.register.people l.programmes l.prog l.seats
