use Rattle.apply_engine.proofs.Pushing.{BegunTo}
use Rattle.apply_engine.proofs.programmes.begin_states.Given as goal

abbrev pub invariant-loop-prog : goal.invariant-loop-prog
invariant-loop-prog l = BegunTo l.version l.matrix l.prog l.states.items
