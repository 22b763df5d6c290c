use Rattle.apply_engine.specs.Made.{ArePut}
use Rattle.apply_engine.proofs.seating.put_programme.Given as goal

abbrev pub invariant-loop-list : goal.invariant-loop-list
invariant-loop-list l = ArePut l.register.people l.prog.0 l.list-index l.programme l.fn.seats l.seats
